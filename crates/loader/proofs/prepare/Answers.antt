-- The marks are cleared, then the checks refuse or the records decide.
use Rattle.loader.proofs.Passed.{has_fit, has_room, refused_kept, passed_kept}
use Rattle.loader.proofs.prepare.Goals as goal

pub invariant_of-job : goal.invariant_of-job
invariant_of-job c =
    let a = c.args in
    let is = rw c.clear.auto.dst at c.in-Ok.ensures in
    record { fits = has_fit a.image.now a.number a.selectors.now a.answers.now a.output.now a.marks.now (λ i. (c.shared_slice_known-1.given i).fits) _ is }

pub segment-requires : goal.segment-requires
segment-requires c =
    let a = c.args in
    let is = rw c.clear.auto.dst at c.in-Ok.ensures in
    rw c.clear.ensures (has_room a.image.now a.number a.selectors.now a.answers.now a.output.now a.marks.now (λ i. (c.shared_slice_known-1.given i).fits) _ is)

pub returns-in-Err : goal.returns-in-Err
returns-in-Err c =
    let a = c.args in
    let is = rw c.clear.auto.dst at c.in-Err.ensures in
    rw (c.from.ensures, c.clear.ensures) (refused_kept a.image.now a.number a.selectors.now a.answers.now a.output.now a.marks.now (λ i. (c.shared_slice_known-1.given i).fits) _ is)

pub returns-in-Ok : goal.returns-in-Ok
returns-in-Ok c =
    let a = c.args in
    let is = rw c.clear.auto.dst at c.in-Ok.ensures in
    let left = rw c.clear.ensures at c.segment.ensures in
    passed_kept a.image.now a.number a.selectors.now a.answers.now a.output.now a.marks.now (λ i. (c.shared_slice_known-1.given i).fits) _ is _ _ _ left
