-- The bytes of a bundle's entries by arithmetic alone: of the two quotients, one is 1 for the byte 255 alone, and the
-- other for 0 alone.
-- Assumes nothing.
use mathlib.Core.Path.{◌≡◌, refl}
use mathlib.Core.Bool.{Bool, true, false}
use Prim.Native.Nat.{ℕ, ◌+◌, ◌*◌, ◌-◌, ◌/◌, ◌≤◌}
use native.Mathlib.Omega.{arith}
use borrow.Author.Tests.{eqb-true, eqb-false}
use lib.Dec.{eqb}
use Rattle.bundle.specs.Bundle.{kind_of, width_of}

pub record Sized (segment count : ℕ) : Type 0 where
  pub movable : 3 * count * (segment / 255) ≤ 3 * count
  pub null : 3 * count * ((255 - segment) / 255) ≤ 3 * count
  pub whole : 3 * count + 3 * count * (segment / 255) - 3 * count * ((255 - segment) / 255) ≡ width_of (kind_of segment) * count

-- By cases of the segment byte, in each of which both quotients are known.
pub sized : (segment count : ℕ) → segment ≤ 255 → Sized segment count
unfolding kind_of
sized segment count byte = go (eqb segment 0) (eqb segment 255) refl refl
  where
    with : (m n : ℕ) → segment / 255 ≡ m → (255 - segment) / 255 ≡ n → 3 * count * m ≤ 3 * count → 3 * count * n ≤ 3 * count → 3 * count + 3 * count * m - 3 * count * n ≡ width_of (kind_of segment) * count → Sized segment count
    with m n e f low few all = record { movable = rw e low; null = rw f few; whole = rw (e, f) all }

    go : (null movable : Bool) → eqb segment 0 ≡ null → eqb segment 255 ≡ movable → Sized segment count
    go true movable e f =
        let is = eqb-true segment 0 e in
        with 0 1 (omega arith) (omega arith) (omega arith) (omega arith) (rw e (omega arith))
    go false true e f =
        let is = eqb-true segment 255 f in
        with 1 0 (omega arith) (omega arith) (omega arith) (omega arith) (rw (e, f) (omega arith))
    go false false e f =
        let some : segment ≡ 0 → ⊥ = eqb-false segment 0 e in
        let other : segment ≡ 255 → ⊥ = eqb-false segment 255 f in
        with 0 0 (omega arith) (omega arith) (omega arith) (omega arith) (rw (e, f) (omega arith))
