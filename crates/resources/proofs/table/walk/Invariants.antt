-- `resources::table::walk` meets its contract. The loop's invariant: what was found so far and the blocks from here on give
-- what the whole table gives.
-- Assumes nothing.
use mathlib.Core.Path.{◌≡◌}
use Prim.Native.Nat.{◌-◌, ◌^◌, ◌≤◌, ◌<◌}
use lib.ListN.{length}
use Rattle.resources.specs.Resource.{blocks_from}
use Rattle.resources.specs.Internal.{walk_of}
use Rattle.resources.proofs.Blocks.{table_at}
use Rattle.resources.proofs.Walk.{in_all}
use Rattle.resources.proofs.table.walk.Given as goal

abbrev pub invariant-loop-at : goal.invariant-loop-at
invariant-loop-at g l =
    record {
      at_fits : l.at < 2 ^ 63;
      counted : l.used ≤ l.at;
      found : in_all (g.W.Wanted.takes l.wanted) l.found (table_at l.image l.shift l.at l.used) ≡ walk_of (blocks_from l.image l.shift l.fn.start) (g.W.Wanted.takes l.wanted);
    }

abbrev pub decreases-loop-at : goal.decreases-loop-at
decreases-loop-at g l = length l.image - l.at
