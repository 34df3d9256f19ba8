-- The width of a product, once over the widths of its factors.
-- Assumes nothing.
use Prim.Native.Nat.{ℕ, ◌+◌, ◌*◌, ◌^◌, ◌<◌}
use native.Mathlib.Nat.{le_of_lt, lt_of_le_of_lt, mul-le-mul_left}
use lib.Pow.{shl_lt}

pub product_below : (j k : ℕ) {a b : ℕ} → a < 2 ^ j → b < 2 ^ k → a * b < 2 ^ (j + k)
product_below j k {a} ha hb = lt_of_le_of_lt (mul-le-mul_left a (le_of_lt hb)) (shl_lt j k ha)
