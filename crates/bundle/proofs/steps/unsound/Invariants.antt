-- The entries from the index on decide what all of them do.
use Rattle.std.proofs.Common.{◌≡◌, ◌+◌, ◌*◌, ◌-◌}
use Rattle.bundle.specs.Bundle.{width_of, unsound_from}
use Rattle.bundle.proofs.steps.unsound.Given as goal

abbrev pub invariant-loop-index : goal.invariant-loop-index
invariant-loop-index l =
    unsound_from (l.count - l.index) l.table l.segments l.kind (l.at + width_of l.kind * l.index) ≡ unsound_from l.count l.table l.segments l.kind l.at
