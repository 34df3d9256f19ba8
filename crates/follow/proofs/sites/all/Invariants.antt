-- `follow::sites::all` meets its contract. The loop's invariant: the pass from here on is the pass from the start on.
-- Assumes nothing.
use mathlib.Core.Path.{◌≡◌}
use lib.ListN.{length}
use Rattle.follow.specs.Internal.{pass_from, fuel}
use Rattle.follow.proofs.sites.all.Given as goal

abbrev pub invariant-loop-next : goal.invariant-loop-next
invariant-loop-next l = (length l.marks ≡ length l.initial.marks) × (length l.bytes ≡ length l.initial.bytes) × (pass_from (fuel l.count) l.stored l.f l.at l.count l.marks l.bytes ≡ pass_from (fuel l.done) l.stored l.f l.f.site l.done l.initial.marks l.initial.bytes)

abbrev pub decreases-loop-next : goal.decreases-loop-next
decreases-loop-next l = fuel l.count
