-- `entry::heads::find` meets its contract. The loop's invariant: the walk stands at a place of the table, and `left` ordinals come
-- from there on before the one that is looked for.
-- Assumes nothing.
use Prim.Native.Nat.{◌-◌, ◌<◌}
use lib.ListN.{length}
use Rattle.entry.proofs.Indexed.{Marked}
use Rattle.entry.proofs.heads.find.Given as goal

abbrev pub invariant-loop-head : goal.invariant-loop-head
invariant-loop-head l = (l.left < l.number) × Marked l.table l.at (l.number - 1 - l.left)

abbrev pub decreases-loop-head : goal.decreases-loop-head
decreases-loop-head l = length l.table - l.at
