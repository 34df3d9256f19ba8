-- When a target resolves, and to what, in words about the record and the image.
use Rattle.std.specs.Prelude.{◌≡◌, List, ℕ, ◌≤◌, ◌%◌, Ok, Some}
use Rattle.header.specs.declared.Header.{Header}
use Rattle.bundle.specs.declared.Entry.{Entry}
use Rattle.entry.specs.Ordinal.{ordinal_in}
use Rattle.imports.specs.Module.{string_at}
use Rattle.imports.specs.declared.Text.{Text}
use Rattle.fixup.specs.declared.Record.{Record}
use Rattle.fixup.specs.declared.Target.{Target}
use Rattle.fixup.specs.declared.Target.TheVariants.{Segment, Import, Os}

-- "1 to the count".
abbrev pub InCount : ℕ → ℕ → Type 0
InCount count number = (1 ≤ number) × (number ≤ count)

-- "Flag bits 0 and 1: 0 internal, 1 import by ordinal, 2 import by name, 3 OS fixup."
pub data ResolvesTo (image : List ℕ) (h : Header) (r : Record) : Target → Type 0 where
  -- "1 to the count (not 255) gives that segment's selector, with the last word as offset".
  by_segment : r.flags % 4 ≡ 0 → (r.first % 256 ≡ 255 → ⊥) → InCount h.segments.count (r.first % 256) → ResolvesTo image h r (Segment (r.first % 256) r.last)
  -- "255 gives the entry of the ordinal in the last word."
  by_ordinal : r.flags % 4 ≡ 0 → r.first % 256 ≡ 255 → (e : Entry) → ordinal_in image h r.last ≡ Ok e → ResolvesTo image h r (Segment e.segment e.offset)
  -- "Import: the first word is a module number 1 to the count".
  import_by_ordinal : r.flags % 4 ≡ 1 → InCount h.modules.count r.first → ResolvesTo image h r Import
  -- "by name, the string at the last word, counted from the imported names, must be sound".
  import_by_name : r.flags % 4 ≡ 2 → InCount h.modules.count r.first → (text : Text) → string_at image h r.last ≡ Some text → ResolvesTo image h r Import
  -- "An OS fixup changes no byte and has no site; its target words aren't read".
  as_os : r.flags % 4 ≡ 3 → ResolvesTo image h r Os

abbrev pub Resolves : List ℕ → Header → Record → Type 0
Resolves image h r = (t : Target) × ResolvesTo image h r t
