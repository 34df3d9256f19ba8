-- What serves proofs alone: text as it is written to a slice, and the lines of a table bundle by bundle. `proofs/ByBundle.antt` shows
-- that these are the lines of the listing.
use Rattle.std.specs.Prelude.{◌≡◌, List, [], ◌∷◌, ◌++◌, ℕ, zero, suc, ◌+◌, ◌^◌, ◌<◌, length, drop}
use Rattle.std.proofs.lemmas.List.Edits.{sets}
use Rattle.listing.specs.declared.text.Writer.{Writer}
use Rattle.bundle.specs.declared.Kind.{Kind}
use Rattle.bundle.specs.declared.Bundle.{Bundle}
use Rattle.bundle.specs.Bundle.{width_of, entry_of}
use Rattle.tables.specs.Table.{Sound, Unsound}
use Rattle.entry.specs.Table.{EntryTable}
use Rattle.listing.specs.Listing.{answer_line}

-- That a writer that was `before` is `after` once a text was written to it: the text stands in the slice from the place
-- `before.len` on, as far as the slice goes. Of a text whose end a `usize` can't count nothing is said.
pub record Writes (before : Writer) (text : List ℕ) (after : Writer) : Type 0 where
  pub same : after.out.ghost_name ≡ before.out.ghost_name
  pub bytes : before.len + length text < 2 ^ 64 → after.out.now ≡ sets before.out.now before.len text
  pub len : before.len + length text < 2 ^ 64 → after.len ≡ before.len + length text

-- `count` ordinals from `number` on, whose entries stand one behind the other from the place `at` on.
unfoldable pub slot_lines : ℕ → List ℕ → Kind → ℕ → ℕ → List ℕ
slot_lines zero table kind number at = []
slot_lines (suc count) table kind number at = answer_line number (entry_of kind (drop at table)) ++ slot_lines count table kind (number + 1) (at + width_of kind)

abbrev pub bundle_lines : List ℕ → Bundle → List ℕ
bundle_lines table b = slot_lines b.count table b.kind (b.used + 1) b.at

unfoldable pub bundles_lines : List ℕ → List Bundle → List ℕ
bundles_lines table [] = []
bundles_lines table (b ∷ bs) = bundle_lines table b ++ bundles_lines table bs

abbrev pub table_lines : List ℕ → EntryTable → List ℕ
table_lines table (Sound bs) = bundles_lines table bs
table_lines table (Unsound why) = []
