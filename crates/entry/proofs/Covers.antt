-- The laws of the ordinals that a bundle covers, and of their entries' places.
-- Assumes nothing.
use mathlib.Core.Path.{◌≡◌, refl}
use mathlib.Core.Bool.{Bool, true, false, ◌&&◌}
use Prim.Native.Nat.{ℕ, ◌+◌, ◌*◌, ◌^◌, ◌≤◌, ◌<◌}
use native.Mathlib.Omega.{arith}
use borrow.Author.Tests.{ltb-true, leb-true}
use lib.Dec.{ltb, leb}
use Rattle.le.proofs.Product.{product_below}
use Rattle.checks.proofs.Impossible.{never}
use Rattle.bundle.specs.declared.Bundle.{Bundle}
use Rattle.entry.specs.Table.{covers}

pub covered : (b : Bundle) (number : ℕ) → covers b number ≡ true → (b.used < number) × (number ≤ b.used + b.count)
covered b number e = go (ltb b.used number) refl e
  where
    go : (t : Bool) → ltb b.used number ≡ t → (ltb b.used number && leb number (b.used + b.count)) ≡ true → (b.used < number) × (number ≤ b.used + b.count)
    go true q f = (ltb-true _ _ q, leb-true _ _ (rw q at f))
    go false q f =
        let z : false ≡ true = rw q at f in
        never cc

-- An entry has at most 6 bytes, and an ordinal 32 bits.
pub offset_below : (width index : ℕ) → width ≤ 6 → index < 2 ^ 32 → width * index < 2 ^ 35
offset_below width index h = let small : width < 2 ^ 3 = omega arith in product_below 3 32 small
