-- What was found so far and the table from here on give what the whole table gives.
use Rattle.std.proofs.Common.{◌≡◌, ◌-◌, length}
use Rattle.entry.specs.Table.{table_at, table_of}
use Rattle.entry.specs.Internal.{walk_of, found_of}
use Rattle.entry.proofs.whole.walk.Given as goal

abbrev pub invariant-loop-b : goal.invariant-loop-b
invariant-loop-b l = found_of l.used l.slot l.number (table_at l.table l.segments l.at l.used) ≡ walk_of (table_of l.table l.segments) l.number

abbrev pub decreases-loop-b : goal.decreases-loop-b
decreases-loop-b l = length l.table - l.at
