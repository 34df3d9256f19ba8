-- What serves proofs alone: what the functions here know and tell apart where a target is resolved. `fixup` has its meaning.
use Rattle.std.specs.Prelude.{◌≡◌, List, ℕ, ◌<◌, Result}
use Rattle.header.specs.declared.Header.{Header}
use Rattle.bundle.specs.declared.Bundle.{Bundle}
use Rattle.bundle.specs.declared.Entry.{Entry}
use Rattle.refusal.specs.declared.Refusal.{Refusal}
use Rattle.tables.specs.Table.{Sound}
use Rattle.entry.specs.Table.{table_of}
use Rattle.entry.specs.Ordinal.{table_bytes, ordinal_in}
use Rattle.fixup.specs.declared.Target.{Target}
use Rattle.fixup.specs.declared.Target.TheVariants.{Segment, Import, Os}

-- That the table was checked, and is sound.
abbrev pub Checked : List ℕ → Header → Type 0
Checked image h = (bundles : List Bundle) × (table_of (table_bytes image h) h.segments.count ≡ Sound bundles)

-- That a function may be asked for an ordinal, and says what it stands for, by what it requires and ensures of a call.
abbrev pub Finds : (ℕ → Type 0) → (ℕ → Result Entry Refusal → Type 0) → List ℕ → Header → ℕ → Type 0
Finds pre post image h number = pre number × ((found : Result Entry Refusal) → post number found → found ≡ ordinal_in image h number)

-- That a segment that a target names counts from 1.
abbrev pub Counted : Target → Type 0
Counted (Segment segment offset) = 0 < segment
Counted Import = Unit
Counted Os = Unit
