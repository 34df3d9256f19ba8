-- The table from here on is sound, and its lines, written from here on, give what those of the whole table give.
use Rattle.std.proofs.Common.{◌≡◌, true, ◌-◌, length}
use Rattle.entry.specs.Table.{table_at, table_of, is_sound}
use Rattle.listing.specs.Internal.{table_lines}
use Rattle.listing.proofs.Writing.{Still}
use Rattle.listing.proofs.entries.bundles.Given as goal

abbrev pub invariant-loop-b : goal.invariant-loop-b
invariant-loop-b l = record {
  sound : is_sound (table_at l.table l.segments l.at l.used) ≡ true;
  still : Still l.text (table_lines l.table (table_at l.table l.segments l.at l.used)) l.initial.text (table_lines l.table (table_of l.table l.segments));
}

abbrev pub decreases-loop-b : goal.decreases-loop-b
decreases-loop-b l = length l.table - l.at
