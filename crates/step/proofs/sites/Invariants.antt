-- `step::sites` meets its contract. The loop's invariant: the step from here on is the step from the start on.
-- Assumes nothing.
use mathlib.Core.Path.{◌≡◌}
use Prim.Native.Nat.{◌-◌}
use lib.ListN.{length}
use Rattle.site.specs.Step.{step_from}
use Rattle.step.proofs.sites.Given as goal

abbrev pub invariant-loop-done : goal.invariant-loop-done
invariant-loop-done l = (length l.buffer ≡ length l.initial.buffer) × (step_from (length l.initial.buffer - l._done) l.f l.next l.buffer ≡ step_from (length l.initial.buffer) l.f l.f.site l.initial.buffer)
