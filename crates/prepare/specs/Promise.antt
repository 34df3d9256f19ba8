-- What preparing promises of its answer and of the two lent buffers, as they were before and as they are left, for every request.
use Rattle.std.specs.Prelude.{◌≡◌, List, ℕ, length, take, drop, Result, Ok, Err}
use Rattle.le.specs.Slice.{zeros}
use Rattle.header.specs.declared.Header.{Header}
use Rattle.segment.specs.declared.Segment.{Segment}
use Rattle.prepare.specs.declared.Rejection.{Rejection}
use Rattle.prepare.specs.Prepare.{Request, prepare_of, answer_of, output_after, marks_after}
use Rattle.prepare.specs.Sound.{Ready}
use Rattle.prepare.specs.Delivered.{Delivered}
use Rattle.prepare.specs.Rejected.{Beside}

-- The three demands, on what then stands in the buffers. Accepted: the output up to the allocation and the marks are as demands 2 and
-- 3 say, every order of the records among it, and the output past the allocation is unchanged. Refused: the number chosen by the
-- fixed order and the bad record's number, the output as it came, the marks all zeros.
abbrev pub Meets : Request → Result ℕ Rejection → List ℕ → List ℕ → List ℕ → List ℕ → Type 0
Meets q (Ok count) output output' marks marks' =
    (h : Header)
    × (s : Segment)
    × Ready q h s
    × Delivered q h s count (take s.allocation output') marks'
    × (drop s.allocation output' ≡ drop s.allocation output)
Meets q (Err r) output output' marks marks' = Beside q r.why r.number × (output' ≡ output) × (marks' ≡ zeros (length marks))

pub record Promise (q : Request) (answer : Result ℕ Rejection) (output output' marks marks' : List ℕ) : Type 0 where
  -- All three are what preparing means.
  pub answer_is : answer ≡ answer_of (prepare_of q)
  pub output_is : output' ≡ output_after (prepare_of q) output
  pub marks_are : marks' ≡ marks_after (prepare_of q) marks
  -- And what it means meets the demands.
  pub demands : Meets q answer output output' marks marks'
