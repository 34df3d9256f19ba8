-- From the checks before the records to preparing's promise.
--     has_fit       where they are passed, the segment lies in the image
--     has_room      and there is room for it
--     refused_kept  where they refuse, the promise is kept
--     passed_kept   where they are passed, it is kept by what the records leave
-- Assumes nothing.
use Rattle.std.specs.Prelude.{Result, Ok, Err}
use mathlib.Core.Path.{◌≡◌, refl, sym, ap, ◌∙◌}
use mathlib.Core.List.{List}
use Prim.Native.Nat.{ℕ, ◌-◌}
use native.Mathlib.Omega.{arith}
use lib.ListN.{length, length-replicate}
use Rattle.le.specs.Number.{Bytes}
use Rattle.le.specs.Slice.{zeros}
use Rattle.refusal.specs.declared.Refusal.{Refusal}
use Rattle.segment.specs.declared.Segment.{Segment}
use Rattle.segment.proofs.Bounds.{record_accepted, allocation_full}
use Rattle.site.specs.Walk.{Walk, Walked, Stopped}
use Rattle.prepare.specs.declared.Rejection.{Rejection}
use Rattle.prepare.specs.Prepare.{Request, Outcome, Prepared, Refused, request_of, walked_of, outcome_of, prepare_of, marks_after}
use Rattle.prepare.specs.Promise.{Promise}
use Rattle.prepare.proofs.Ready.{is_walked}
use Rattle.prepare.proofs.Kept.{kept}
use Rattle.ready.specs.Internal.{ready_of}
use Rattle.ready.proofs.Outcome.{was_refused, was_passed}
use Rattle.ready.specs.declared.Passed.{Passed}
use Rattle.entry.specs.Table.{is_sound}
use Rattle.loader.specs.Fits.{Fits}
use Rattle.loader.specs.Internal.{Lent, Leaves, outcome_in}

module _ (image : List ℕ) (number : ℕ) (selectors answers output marks : List ℕ) (bytes : Bytes image) where
  abbrev request : Request
  request = request_of image number selectors answers (length output) (length marks)

  pub has_fit : (r : Passed) → Ok r ≡ ready_of request → Fits image r.header r.segment answers
  has_fit r e =
      let is = was_passed request r.header r.segment e in
      let in_image = record_accepted image r.header (number - 1) r.segment is.found.segment in
      record {
        entries = ap is_sound is.found.entries;
        stored = in_image.stored;
        small = omega (arith, in_image.allocation, allocation_full image r.header (number - 1) r.segment is.found.segment bytes);
        allocation = in_image.allocation;
        answers_fit = is.answers;
      }

  pub has_room : (r : Passed) → Ok r ≡ ready_of request → Lent r.segment output (zeros (length marks))
  has_room r e =
      let is = was_passed request r.header r.segment e in
      let same = length-replicate {A = ℕ} (length marks) 0 in
      record { output_fits = is.output; marks_fit = omega (arith, is.marks, same); unmarked = ap zeros (sym same) }

  pub refused_kept : (why : Refusal) → Err why ≡ ready_of request → Promise request (Err (record { why = why; number = 0 })) output output marks (zeros (length marks))
  refused_kept why e =
      let is = was_refused request why e in
      kept request bytes output marks (Err (record { why = why; number = 0 })) output (zeros (length marks)) (rw is) (rw is) (rw is)

  -- The marks after an outcome depend on their number before it alone.
  same_marks : (o : Outcome) → marks_after o (zeros (length marks)) ≡ marks_after o marks
  same_marks (Prepared count segment found) = refl
  same_marks (Refused why at) = ap zeros (length-replicate (length marks) 0)

  -- And an outcome depends neither on the number that was asked for nor on the length of the output.
  same_outcome : (s : Segment) (w : Walk) → outcome_of (request_of image 0 selectors answers 0 (length marks)) s w ≡ outcome_of request s w
  same_outcome s (Walked sites) = refl
  same_outcome s (Stopped why at) = refl

  pub passed_kept : (r : Passed) → Ok r ≡ ready_of request → (given : Result ℕ Rejection) (output' marks' : List ℕ) → Leaves (outcome_in image r.header r.segment selectors answers (zeros (length marks))) given output output' (zeros (length marks)) marks' → Promise request given output output' marks marks'
  passed_kept r e given output' marks' l =
      let h = r.header in
      let s = r.segment in
      let same = length-replicate {A = ℕ} (length marks) 0 in
      let walked = is_walked request h s (was_passed request h s e) in
      let is : outcome_in image h s selectors answers (zeros (length marks)) ≡ prepare_of request = rw same (same_outcome s (walked_of request h s) ∙ sym walked) in
      kept request bytes output marks given output' marks' (rw is at l.answer_is) (rw is at l.output_is) (rw is at l.marks_are ∙ same_marks (prepare_of request))
