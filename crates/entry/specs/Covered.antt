-- The claim of an ordinal, in words about the table: a bundle that isn't null covers it.
use Rattle.std.specs.Prelude.{◌≡◌, ◌⊎◌, List, [], ◌∷◌, ℕ, ◌+◌, ◌≤◌, ◌<◌, drop, Result, Ok}
use Rattle.header.specs.declared.Header.{Header}
use Rattle.bundle.specs.declared.Kind.TheVariants.{Null}
use Rattle.bundle.specs.declared.Bundle.{Bundle}
use Rattle.bundle.specs.declared.Entry.{Entry}
use Rattle.refusal.specs.declared.Refusal.{Refusal}
use Rattle.bundle.specs.Bundle.{entry_of}
use Rattle.tables.specs.Table.{Sound}
use Rattle.entry.specs.Table.{table_of, slot_of}
use Rattle.entry.specs.Ordinal.{table_bytes, ordinal_of}

-- That a bundle stands in a list.
abbrev pub Among : Bundle → List Bundle → Type 0
Among b [] = ⊥
Among b (first ∷ rest) = (b ≡ first) ⊎ Among b rest

-- The table is sound, and `b` is one of its bundles, isn't null, and covers the ordinal.
pub record Covered (image : List ℕ) (h : Header) (number : ℕ) (b : Bundle) : Type 0 where
  pub bundles : List Bundle
  pub sound : table_of (table_bytes image h) h.segments.count ≡ Sound bundles
  pub among : Among b bundles
  pub not_null : b.kind ≡ Null → ⊥
  pub covers : (b.used < number) × (number ≤ b.used + b.count)

-- The entry of an ordinal in a bundle that covers it.
abbrev pub entry_of_bundle : List ℕ → Header → ℕ → Bundle → Result Entry Refusal
entry_of_bundle image h number b = entry_of b.kind (drop (slot_of b number).at (table_bytes image h))

-- "An ordinal resolves": it is accepted, with some entry.
abbrev pub Resolves : List ℕ → ℕ → Type 0
Resolves image number = (e : Entry) × (ordinal_of image number ≡ Ok e)

-- "the entry table is sound and a bundle that isn't null covers it".
abbrev pub IsCovered : List ℕ → Header → ℕ → Type 0
IsCovered image h number = (b : Bundle) × Covered image h number b
