-- What serves proofs alone: what the checks before the records say of a segment.
use Rattle.std.specs.Prelude.{◌≡◌, ℕ, ◌+◌, ◌≤◌, true, List, length}
use Rattle.header.specs.declared.Header.{Header}
use Rattle.segment.specs.declared.Segment.{Segment}
use Rattle.entry.specs.Table.{table_of, is_sound}
use Rattle.entry.specs.Ordinal.{table_bytes}

-- The entry table is sound, the segment lies in the image, and there is an import answer for each of its records.
pub record Fits (image : List ℕ) (h : Header) (s : Segment) (answers : List ℕ) : Type 0 where
  pub entries : is_sound (table_of (table_bytes image h) h.segments.count) ≡ true
  pub stored : s.start + s.stored ≤ length image
  pub small : s.stored ≤ 65536
  pub allocation : s.stored ≤ s.allocation
  pub answers_fit : s.records ≤ length answers
