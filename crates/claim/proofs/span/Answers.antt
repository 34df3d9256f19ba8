-- `claim::span` meets its contract: outside, or what the claim of all bytes of its slice gives.
-- Assumes nothing.
use Rattle.std.proofs.Common.{refl, ◌+◌, length, arith}
use borrow.Author.Tests.{lt-ltb}
use Rattle.claim.specs.Internal.{claim_of}
use Rattle.claim.proofs.Spans.{answers, leaves}
use Rattle.claim.proofs.span.Goals as goal

pub returns-then-marks-end-clause-is : goal.returns-then-marks-end-clause-is
unfolding claim_of
returns-then-marks-end-clause-is c =
    rw (lt-ltb (length c.args.marks.now) (c.args.at + c.args.width) c.if-marks-end.true) refl

pub returns-in-2-clause-is : goal.returns-in-2-clause-is
returns-in-2-clause-is c =
    answers _ _ _ _ (omega arith) c.if-marks-end.false _ c.all.ensures.is

pub returns-in-2-clause-left : goal.returns-in-2-clause-left
returns-in-2-clause-left c =
    leaves _ _ _ _ (omega arith) c.if-marks-end.false _ _ c.all.ensures.left

pub returns-in-4-clause-is : goal.returns-in-4-clause-is
returns-in-4-clause-is c =
    answers _ _ _ _ (omega arith) c.if-marks-end.false _ c.all-in-4.ensures.is

pub returns-in-4-clause-left : goal.returns-in-4-clause-left
returns-in-4-clause-left c =
    leaves _ _ _ _ (omega arith) c.if-marks-end.false _ _ c.all-in-4.ensures.left

pub returns-in_default-clause-is : goal.returns-in_default-clause-is
returns-in_default-clause-is c =
    answers _ _ _ _ (omega arith) c.if-marks-end.false _ c.all-in_default.ensures.is

pub returns-in_default-clause-left : goal.returns-in_default-clause-left
returns-in_default-clause-left c =
    leaves _ _ _ _ (omega arith) c.if-marks-end.false _ _ c.all-in_default.ensures.left
