-- `entry::index::fill` meets its contract. The loop's invariant: the index is one, and the walk stands at a place of the table.
-- Assumes nothing.
use mathlib.Core.Path.{◌≡◌}
use Prim.Native.Nat.{◌-◌, ◌≤◌}
use lib.ListN.{length}
use Rattle.entry.specs.Internal.{Indexes}
use Rattle.entry.proofs.Indexed.{Marked}
use Rattle.entry.proofs.index.fill.Given as goal

abbrev pub invariant-loop-at : goal.invariant-loop-at
invariant-loop-at l = (l.used ≤ 65535) × (length l.index ≡ length l.initial.index) × Indexes l.table l.index × Marked l.table l.at l.used

abbrev pub decreases-loop-at : goal.decreases-loop-at
decreases-loop-at l = 65536 - l.at
