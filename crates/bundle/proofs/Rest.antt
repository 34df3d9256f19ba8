-- The entries of a bundle from an index on: the first of them and the others decide whether one is unsound.
--     unsound_rest   where the index is below the count
--     unsound_none   where it is the count or more
-- Assumes nothing.
use Rattle.std.proofs.Common.{◌≡◌, ℕ, suc, ◌+◌, ◌*◌, ◌-◌, ◌<◌, ◌≤◌, false, ◌||◌, List, drop, arith}
use Rattle.bundle.specs.Bundle.{width_of, entry_unsound, unsound_from}
use Rattle.bundle.specs.declared.Kind.{Kind}

pub unsound_rest : (count index : ℕ) (table : List ℕ) (segments : ℕ) (kind : Kind) (at : ℕ) → index < count → unsound_from (count - index) table segments kind (at + width_of kind * index) ≡ (entry_unsound segments kind (drop (at + width_of kind * index) table) || unsound_from (count - (index + 1)) table segments kind (at + width_of kind * (index + 1)))
unfolding unsound_from
unsound_rest count index table segments kind at h =
    let left : count - index ≡ suc (count - (index + 1)) = omega arith in
    let next : at + width_of kind * (index + 1) ≡ at + width_of kind * index + width_of kind = grind arith in
    rw (left, next)

pub unsound_none : (count index : ℕ) (table : List ℕ) (segments : ℕ) (kind : Kind) (at : ℕ) → count ≤ index → unsound_from (count - index) table segments kind at ≡ false
unfolding unsound_from
unsound_none count index table segments kind at h = let none : count - index ≡ 0 = omega arith in rw (none)
