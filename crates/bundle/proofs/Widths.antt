-- The bytes of entries that stand one behind the other: those of the first, and those of the rest.
-- Assumes nothing.
use mathlib.Core.Path.{◌≡◌}
use Prim.Native.Nat.{ℕ, zero, suc, ◌+◌, ◌*◌, ◌-◌, ◌<◌}
use native.Mathlib.Omega.{arith}
use native.Mathlib.Nat.{not-suc-le-zero, mul-suc}

pub one_width : (width left : ℕ) → 0 < left → width + width * (left - 1) ≡ width * left
one_width width zero h = absurd (not-suc-le-zero h)
one_width width (suc left) h = let rest : suc left - 1 ≡ left = omega arith in rw (rest, mul-suc) (omega arith)
