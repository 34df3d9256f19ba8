-- `step::sites` meets its contract: each way out of a turn of the loop is a case of the definition.
-- Assumes nothing.
use Rattle.std.proofs.Common.{◌≡◌, ◌∙◌, ◌-◌, length, arith}
use Rattle.site.specs.Step.{step_from}
use Rattle.step.proofs.Turns.{past, ends, goes}
use Rattle.step.proofs.sites.Goals as goal

pub returns-then-buffer-at : goal.returns-then-buffer-at
returns-then-buffer-at c =
    past _ _ _ _ c.width-width.ensures.is _ c.if-buffer-at.true ∙ c.loop-done.invariant.1

pub returns-then-f : goal.returns-then-f
returns-then-f c =
    ends _ _ _ _ c.width-width.ensures.is _ _ _ c.byte-byte.ensures c.word-next.ensures c.put.ensures c.if-buffer-at.false _ (omega arith) c.then-f.either ∙ c.loop-done.invariant.1

pub loop-done-preserved : goal.loop-done-preserved
loop-done-preserved c =
    (omega arith, goes _ _ _ _ c.width-width.ensures.is _ _ _ c.byte-byte.ensures c.word-next.ensures c.put.ensures c.if-buffer-at.false _ _ (omega arith) c.if-f.false c.if-next.false ∙ c.loop-done.invariant.1)

pub returns : goal.returns
unfolding step_from
returns c =
    let none : length c.args.buffer.now - c.loop-done._done ≡ 0 = omega arith in
    rw none at c.loop-done.invariant.1
