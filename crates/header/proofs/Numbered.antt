-- The laws of a table that doesn't lack a number.
--     has        the number lies between 1 and the count
--     has_such   and the other way
-- Assumes nothing.
use mathlib.Core.Path.{◌≡◌, refl}
use mathlib.Core.Bool.{Bool, true, false}
use Prim.Native.Nat.{ℕ, ◌≤◌, ◌<◌}
use native.Mathlib.Omega.{arith}
use borrow.Author.Tests.{ltb-false, eqb-false, ne_eqb, le-ltb}
use lib.Dec.{eqb}
use Rattle.checks.proofs.Impossible.{never}
use Rattle.header.specs.Header.{lacks}

pub has : (count number : ℕ) → lacks count number ≡ false → (0 < number) × (number ≤ count)
unfolding lacks
has count number e = go (eqb number 0) refl
  where
    go : (t : Bool) → eqb number 0 ≡ t → (0 < number) × (number ≤ count)
    go true q =
        let z : true ≡ false = rw q at e in
        never cc
    go false q =
        let some : number ≡ 0 → ⊥ = eqb-false number 0 q in
        (omega arith, ltb-false count number (rw q at e))

pub has_such : (count number : ℕ) → 0 < number → number ≤ count → lacks count number ≡ false
unfolding lacks
has_such count number low high =
    let some : number ≡ 0 → ⊥ = λ e. omega arith in
    rw (ne_eqb number 0 some, le-ltb count number high)
