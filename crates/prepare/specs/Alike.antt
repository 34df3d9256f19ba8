-- "Answers depend on the selectors of segments that are targeted and on the answers at import records."
use Rattle.std.specs.Prelude.{◌≡◌, List, [], ℕ, ◌-◌, ◌<◌, length, get_or, Ok}
use Rattle.header.specs.Header.{header_of}
use Rattle.header.specs.declared.Header.{Header}
use Rattle.segment.specs.Segment.{record_of}
use Rattle.segment.specs.declared.Segment.{Segment}
use Rattle.fixup.specs.Target.{target_of}
use Rattle.fixup.specs.Action.{AgreeAt}
use Rattle.prepare.specs.Prepare.{Request, Outcome, Prepared, Refused, record_in, import_answer}

-- The same call with other lists.
abbrev pub with_lists : Request → List ℕ → List ℕ → Request
with_lists q selectors answers =
    record { image = q.image; number = q.number; selectors = selectors; answers = answers; output = q.output; marks = q.marks }

-- The lists have the same lengths, the selectors agree at the segments that are targeted, and the answers agree at the import
-- records.
pub record Alike (q : Request) (selectors answers : List ℕ) : Type 0 where
  pub as_many_selectors : length q.selectors ≡ length selectors
  pub as_many_answers : length q.answers ≡ length answers
  pub agree : (h : Header) (s : Segment) → header_of q.image ≡ Ok h → record_of q.image h (q.number - 1) ≡ Ok s → (i : ℕ) → i < s.records → AgreeAt q.selectors selectors (import_answer q i) (get_or answers i 0) (target_of q.image h (record_in q s i))

-- An outcome but for the segment's bytes: the refusal with its record, or the site count and the marks.
abbrev pub but_bytes : Outcome → Outcome
but_bytes (Prepared count bytes marks) = Prepared count [] marks
but_bytes (Refused why number) = Refused why number
