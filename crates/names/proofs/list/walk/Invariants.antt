-- `names::list::walk` meets its contract. The loop's invariant: what was found so far and the list from here on give what the
-- whole list gives.
-- Assumes nothing.
use mathlib.Core.Path.{◌≡◌}
use Prim.Native.Nat.{◌+◌, ◌-◌, ◌≤◌}
use Rattle.names.specs.Names.{list_from}
use Rattle.names.specs.Internal.{walk_of}
use Rattle.names.proofs.Walk.{in_all}
use Rattle.names.proofs.list.walk.Given as goal

abbrev pub invariant-loop-at : goal.invariant-loop-at
invariant-loop-at g l =
    record {
      counted : l.used ≤ l.fn.before.used + l.at;
      found : in_all (g.W.Wanted.takes l.wanted l.first) l.used l.found (list_from l.image l.limit l.why l.at l.used) ≡ walk_of (list_from l.image l.limit l.why l.fn.e.at l.fn.before.used) l.fn.before (g.W.Wanted.takes l.wanted);
    }

abbrev pub decreases-loop-at : goal.decreases-loop-at
decreases-loop-at g l = l.limit - l.at
