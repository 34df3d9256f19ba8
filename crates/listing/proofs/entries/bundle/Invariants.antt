-- The lines of the ordinals before this one are written.
use Rattle.std.proofs.Common.{◌+◌}
use Rattle.listing.specs.Internal.{Writes, slot_lines}
use Rattle.listing.proofs.entries.bundle.Given as goal

abbrev pub invariant-loop-index : goal.invariant-loop-index
invariant-loop-index l = Writes l.initial.text (slot_lines l.index l.table l.b.kind (l.b.used + 1) l.b.at) l.text
