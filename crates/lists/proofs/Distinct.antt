-- The law of numbers that all differ: there are no more of them below a bound than the bound says.
-- Assumes nothing.
use mathlib.Core.Path.{◌≡◌, refl}
use mathlib.Core.Bool.{Bool, true, false, cond}
use mathlib.Core.List.{List, [], ◌∷◌}
use Prim.Native.Nat.{ℕ, zero, suc, ◌≤◌, ◌<◌}
use native.Mathlib.Omega.{arith}
use borrow.Author.Tests.{eqb-true, eqb-false}
use lib.Dec.{eqb}
use lib.ListN.{length}
use Rattle.lists.specs.Lists.{All, Pairs}
use Rattle.lists.proofs.All.{all_both, all_map}

abbrev pub Differ : ℕ → ℕ → Type 0
Differ x y = x ≡ y → ⊥

-- A list without the first element that is `v`.
without : ℕ → List ℕ → List ℕ
without v [] = []
without v (x ∷ xs) = cond (eqb x v) xs (x ∷ without v xs)

module _ (v : ℕ) where
  without_all : (P : ℕ → Type 0) (xs : List ℕ) → All P xs → All P (without v xs)
  unfolding without
  without_all P [] p = tt
  without_all P (x ∷ xs) p = go (eqb x v) (without_all P xs p.1)
    where
      go : (t : Bool) → All P (without v xs) → All P (cond t xs (x ∷ without v xs))
      go true rest = p.1
      go false rest = (p.0, rest)

  without_differ : (xs : List ℕ) → Pairs Differ xs → Pairs Differ (without v xs)
  unfolding without
  without_differ [] p = tt
  without_differ (x ∷ xs) p = go (eqb x v) (without_differ xs p.1)
    where
      go : (t : Bool) → Pairs Differ (without v xs) → Pairs Differ (cond t xs (x ∷ without v xs))
      go true rest = p.1
      go false rest = (without_all (Differ x) xs p.0, rest)

  without_length : (xs : List ℕ) → length xs ≤ suc (length (without v xs))
  unfolding without
  without_length [] = omega arith
  without_length (x ∷ xs) = go (eqb x v) (without_length xs)
    where
      go : (t : Bool) → length xs ≤ suc (length (without v xs)) → suc (length xs) ≤ suc (length (cond t xs (x ∷ without v xs)))
      go true h = omega arith
      go false h = omega arith

  without_below : (xs : List ℕ) → All (λ x. x < suc v) xs → Pairs Differ xs → All (λ x. x < v) (without v xs)
  unfolding without
  without_below [] p d = tt
  without_below (x ∷ xs) p d = go (eqb x v) refl (without_below xs p.1 d.1)
    where
      lower : (y : ℕ) → Differ x y × (y < suc v) → x ≡ v → y < v
      lower y h e = let n = h.0 in omega (arith, h.1)

      go : (t : Bool) → eqb x v ≡ t → All (λ x. x < v) (without v xs) → All (λ x. x < v) (cond t xs (x ∷ without v xs))
      go true e rest =
          let same = eqb-true x v e in
          all_map (λ y. Differ x y × (y < suc v)) (λ y. y < v) (λ y h. lower y h same) xs (all_both (Differ x) (λ y. y < suc v) xs d.0 p.1)
      go false e rest =
          let other : x ≡ v → ⊥ = eqb-false x v e in
          (omega (arith, p.0), rest)

pub few : (n : ℕ) (xs : List ℕ) → All (λ x. x < n) xs → Pairs Differ xs → length xs ≤ n
few zero [] p d = omega arith
few zero (x ∷ xs) p d = absurd (omega (arith, p.0))
few (suc n) xs p d =
    let rest = few n (without n xs) (without_below n xs p d) (without_differ n xs d) in
    omega (arith, without_length n xs)
