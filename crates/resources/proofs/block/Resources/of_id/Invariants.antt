-- `resources::block::Resources::of_id` meets its contract. The loop's invariant: the resources that are left decide what all of
-- them do.
-- Assumes nothing.
use mathlib.Core.Path.{◌≡◌}
use Prim.Native.Nat.{◌-◌}
use Rattle.resources.proofs.InBlock.{id_from}
use Rattle.resources.proofs.block.Resources.of_id.Given as goal

abbrev pub invariant-loop-index : goal.invariant-loop-index
invariant-loop-index l =
    id_from l.self.image.now l.self.block l.id (l.self.block.count - l.index) l.index ≡ id_from l.self.image.now l.self.block l.id l.self.block.count 0
