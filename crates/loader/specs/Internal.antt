-- What serves proofs alone: all records of a segment in one pass, on the marks and on the segment's bytes; what the functions after the
-- checks may count on, and what they leave. `proofs/Walks.antt` shows that the pass answers what going over the records means, and what it
-- leaves in the two.
use Rattle.std.specs.Prelude.{◌≡◌, ℕ, suc, ◌≤◌, List, [], ◌∷◌, get_or, take, drop, length, Result, Ok, Err, Option}
use Rattle.le.specs.Slice.{zeros}
use Rattle.lists.specs.Lists.{each}
use Rattle.header.specs.declared.Header.{Header}
use Rattle.segment.specs.declared.Segment.{Segment}
use Rattle.fixup.specs.Record.{record_at}
use Rattle.fixup.specs.Action.{action_of}
use Rattle.prepare.specs.declared.Rejection.{Rejection}
use Rattle.refusal.specs.declared.Refusal.{Refusal}
use Rattle.site.specs.declared.Fixup.{Fixup}
use Rattle.follow.specs.Internal.{action_pass}
use Rattle.loader.specs.declared.job.Job.{Job}
use Rattle.prepare.specs.Prepare.{Outcome, request_of, outcome_of, walked_of, answer_of, output_after, marks_after}

-- What the pass answers, and what it leaves.
pub record Run : Type 0 where
  pub answer : Result ℕ Rejection
  pub marks : List ℕ
  pub bytes : List ℕ

abbrev pub ran : Result ℕ Rejection → List ℕ → List ℕ → Run
ran answer marks bytes = record { answer = answer; marks = marks; bytes = bytes }

-- Behind the record of a number: its refusal, or what follows.
abbrev pub on_answer : Result ℕ Refusal → ℕ → List ℕ → List ℕ → (ℕ → Run) → Run
on_answer (Ok done) number marks bytes go = go done
on_answer (Err why) number marks bytes go = ran (Err (record { why = why; number = number })) marks bytes

-- The records from the one of a number on, behind `done` sites.
unfoldable pub run_from : List ℕ → List (Result (Option Fixup) Refusal) → ℕ → ℕ → List ℕ → List ℕ → Run
run_from stored [] number done marks bytes = ran (Ok done) marks bytes
run_from stored (a ∷ rest) number done marks bytes =
    let p = action_pass stored a done marks bytes in
    on_answer p.answer number p.marks p.bytes λ more. run_from stored rest (suc number) more p.marks p.bytes

-- What the record of an index asks for, and all of them in file order.
abbrev pub action_at : List ℕ → Header → Segment → List ℕ → List ℕ → ℕ → Result (Option Fixup) Refusal
action_at image h s selectors answers i = action_of image h selectors (get_or answers i 0) (record_at (drop s.list image) i)

abbrev pub actions_in : List ℕ → Header → Segment → List ℕ → List ℕ → List (Result (Option Fixup) Refusal)
actions_in image h s selectors answers = each s.records (action_at image h s selectors answers)

-- What is lent is long enough for a segment, and nothing is marked yet.
pub record Lent (s : Segment) (output marks : List ℕ) : Type 0 where
  pub output_fits : s.allocation ≤ length output
  pub marks_fit : s.stored ≤ length marks
  pub unmarked : marks ≡ zeros (length marks)

-- What going over the records of a segment gives. The request's number and the output's length have no part in it.
abbrev pub outcome_in : List ℕ → Header → Segment → List ℕ → List ℕ → List ℕ → Outcome
outcome_in image h s selectors answers marks =
    let q = request_of image 0 selectors answers 0 (length marks) in
    outcome_of q s (walked_of q h s)

-- The same of a job: its stored bytes, what its records ask for, and what going over them gives.
abbrev pub stored_of_job : Job → List ℕ
stored_of_job job = take job.segment.stored (drop job.segment.start job.module.image.now)

abbrev pub action_of_job : Job → ℕ → Result (Option Fixup) Refusal
action_of_job job i = action_at job.module.image.now job.module.header job.segment job.selectors.now job.answers.now i

abbrev pub actions_of_job : Job → List (Result (Option Fixup) Refusal)
actions_of_job job = actions_in job.module.image.now job.module.header job.segment job.selectors.now job.answers.now

abbrev pub outcome_of_job : Job → List ℕ → Outcome
outcome_of_job job marks = outcome_in job.module.image.now job.module.header job.segment job.selectors.now job.answers.now marks

-- The answer and the two buffers, as an outcome leaves them.
pub record Leaves (o : Outcome) (answer : Result ℕ Rejection) (output output' marks marks' : List ℕ) : Type 0 where
  pub answer_is : answer ≡ answer_of o
  pub output_is : output' ≡ output_after o output
  pub marks_are : marks' ≡ marks_after o marks
