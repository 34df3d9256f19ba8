-- A check that two numbers are equal, from the fact.
-- Assumes nothing.
use mathlib.Core.Path.{◌≡◌}
use mathlib.Core.Bool.{true, false, not}
use Prim.Native.Nat.{ℕ}
use borrow.Author.Tests.{eq-eqb, ne_eqb}
use lib.Dec.{eqb}

pub eq_not_eqb : (a b : ℕ) → a ≡ b → not (eqb a b) ≡ false
eq_not_eqb a b e = rw (eq-eqb a b e)

pub ne_not_eqb : (a b : ℕ) → (a ≡ b → ⊥) → not (eqb a b) ≡ true
ne_not_eqb a b n = rw (ne_eqb a b n)
