-- The laws of what is asked of a list.
--     numbered_append  the numbers of two lists together
--     numbered_has     the element of a number up to the count is the one at that place
--     first_append     in two lists together the second is asked where the first has nothing
--     first_through    what follows of what is found can be said of each element
--     first_holds      what is found was taken by the test, and whatever holds of all elements holds of it
--     numbered_holds   whatever holds of nothing and of what is found of each element holds of what is found
--     same_tests       tests that agree on all elements find the same
--     none_taken       a test that takes no element finds nothing
--     below            no element has a number below the first one's
--     counted          the first element that has a number is the one of that number, counted from the first one's
--     numbered_first   where the elements have their numbers, the element of a number is the first one that has it
--     numbered_lacked  a list lacks the elements of number 0 and above its count
-- Assumes nothing.
use mathlib.Core.Path.{◌≡◌, refl, ap}
use mathlib.Core.Logic.{◌⊎◌, inl, inr}
use mathlib.Core.Bool.{Bool, true, false, cond}
use mathlib.Core.List.{List, [], ◌∷◌, ◌++◌}
use Prim.Native.Nat.{ℕ, zero, suc, ◌+◌, ◌-◌, ◌≤◌, ◌<◌}
use native.Mathlib.Omega.{arith}
use borrow.Author.Tests.{eq-eqb, ne_eqb, eqb-true, eqb-false}
use lib.Dec.{eqb}
use lib.ListN.{length, get_or}
use Rattle.lists.specs.Lists.{All}
use Rattle.tables.specs.Query.{numbered, first_of}

-- That the elements of a list have these numbers, one after the other.
abbrev pub Numbered : {A : Type 0} → (A → ℕ) → ℕ → List A → Type 0
Numbered number first [] = Unit
Numbered number first (x ∷ xs) = (number x ≡ first) × Numbered number (suc first) xs

pub numbered_append : {A : Type 0} (number : A → ℕ) (first : ℕ) (xs ys : List A) → Numbered number first xs → Numbered number (first + length xs) ys → Numbered number first (xs ++ ys)
numbered_append number first [] ys n m = let same : first + 0 ≡ first = omega arith in rw same at m
numbered_append number first (x ∷ xs) ys n m =
    let same : first + suc (length xs) ≡ suc first + length xs = omega arith in
    (n.0, numbered_append number (suc first) xs ys n.1 (rw same at m))

module _ {A B : Type 0} (found : A → B) where
  pub numbered_has : (index : ℕ) (none : B) (xs : List A) (d : A) → index < length xs → numbered (suc index) found none xs ≡ found (get_or xs index d)
  unfolding numbered
  numbered_has index none [] d h = absurd (omega arith)
  numbered_has zero none (x ∷ xs) d h = refl
  numbered_has (suc index) none (x ∷ xs) d h =
      let other : suc (suc index) ≡ 1 → ⊥ = λ e. omega arith in
      let left : suc (suc index) - 1 ≡ suc index = omega arith in
      rw (ne_eqb (suc (suc index)) 1 other, left) (numbered_has index none xs d (omega arith))

  pub first_append : (test : A → Bool) (none : B) (xs ys : List A) → first_of test found none (xs ++ ys) ≡ first_of test found (first_of test found none ys) xs
  unfolding first_of
  first_append test none [] ys = refl
  first_append test none (x ∷ xs) ys = ap (λ b. cond (test x) (found x) b) (first_append test none xs ys)

  pub first_through : {C : Type 0} (g : B → C) (test : A → Bool) (none : B) (xs : List A) → g (first_of test found none xs) ≡ first_of test (λ x. g (found x)) (g none) xs
  unfolding first_of
  first_through g test none [] = refl
  first_through g test none (x ∷ xs) = go (test x) (first_through g test none xs)
    where
      go : (b : Bool) → g (first_of test found none xs) ≡ first_of test (λ x. g (found x)) (g none) xs → g (cond b (found x) (first_of test found none xs)) ≡ cond b (g (found x)) (first_of test (λ x. g (found x)) (g none) xs)
      go true e = refl
      go false e = e

  pub first_holds : (test : A → Bool) (none : B) (P : A → Type 0) (Q : B → Type 0) (xs : List A) → All P xs → Q none → ((x : A) → P x → test x ≡ true → Q (found x)) → Q (first_of test found none xs)
  unfolding first_of
  first_holds test none P Q [] p n t = n
  first_holds test none P Q (x ∷ xs) p n t = go (test x) refl (first_holds test none P Q xs p.1 n t)
    where
      go : (b : Bool) → test x ≡ b → Q (first_of test found none xs) → Q (cond b (found x) (first_of test found none xs))
      go true e rest = t x p.0 e
      go false e rest = rest

  pub numbered_holds : (number : ℕ) (none : B) (Q : B → Type 0) (xs : List A) → Q none → ((x : A) → Q (found x)) → Q (numbered number found none xs)
  unfolding numbered
  numbered_holds number none Q [] n t = n
  numbered_holds number none Q (x ∷ xs) n t = go (eqb number 1) (numbered_holds (number - 1) none Q xs n t)
    where
      go : (b : Bool) → Q (numbered (number - 1) found none xs) → Q (cond b (found x) (numbered (number - 1) found none xs))
      go true rest = t x
      go false rest = rest

  pub same_tests : (test other : A → Bool) (none : B) (xs : List A) → All (λ x. test x ≡ other x) xs → first_of test found none xs ≡ first_of other found none xs
  unfolding first_of
  same_tests test other none [] p = refl
  same_tests test other none (x ∷ xs) p = rw (p.0, same_tests test other none xs p.1)

  pub none_taken : (test : A → Bool) (none : B) (xs : List A) → All (λ x. test x ≡ false) xs → first_of test found none xs ≡ none
  unfolding first_of
  none_taken test none [] p = refl
  none_taken test none (x ∷ xs) p = rw p.0 (none_taken test none xs p.1)

  pub numbered_lacked : (number : ℕ) (none : B) (xs : List A) → (number ≡ 0) ⊎ (length xs < number) → numbered number found none xs ≡ none
  unfolding numbered
  numbered_lacked number none [] h = refl
  numbered_lacked number none (x ∷ xs) (inl z) =
      let other : number ≡ 1 → ⊥ = λ e. omega arith in
      let still : number - 1 ≡ 0 = omega arith in
      rw (ne_eqb number 1 other) (numbered_lacked (number - 1) none xs (inl still))
  numbered_lacked number none (x ∷ xs) (inr h) =
      let other : number ≡ 1 → ⊥ = λ e. omega arith in
      let still : length xs < number - 1 = omega arith in
      rw (ne_eqb number 1 other) (numbered_lacked (number - 1) none xs (inr still))

  pub below : (has : A → ℕ) (first number : ℕ) (xs : List A) → Numbered has first xs → number < first → All (λ x. eqb (has x) number ≡ false) xs
  below has first number [] n h = tt
  below has first number (x ∷ xs) n h =
      let other : has x ≡ number → ⊥ = λ e. omega (arith, n.0) in
      (ne_eqb (has x) number other, below has (suc first) number xs n.1 (omega arith))

  pub counted : (has : A → ℕ) (first number : ℕ) (none : B) (xs : List A) → Numbered has first xs → first ≤ number → first_of (λ x. eqb (has x) number) found none xs ≡ numbered (suc (number - first)) found none xs
  unfolding first_of numbered
  counted has first number none [] n h = refl
  counted has first number none (x ∷ xs) n h = go (eqb (has x) number) refl (λ k. counted has (suc first) number none xs n.1 k)
    where
      go : (b : Bool) → eqb (has x) number ≡ b → (suc first ≤ number → first_of (λ x. eqb (has x) number) found none xs ≡ numbered (suc (number - suc first)) found none xs) → cond b (found x) (first_of (λ x. eqb (has x) number) found none xs) ≡ numbered (suc (number - first)) found none (x ∷ xs)
      go true e ih =
          let same = eqb-true (has x) number e in
          let one : suc (number - first) ≡ 1 = omega (arith, same, n.0) in
          rw (eq-eqb _ 1 one)
      go false e ih =
          let differs = eqb-false (has x) number e in
          let on : suc first ≤ number = omega (arith, differs, n.0) in
          let other : suc (number - first) ≡ 1 → ⊥ = λ z. omega arith in
          let left : suc (number - suc first) ≡ suc (number - first) - 1 = omega arith in
          rw (ne_eqb _ 1 other) (rw left at (ih on))

  pub numbered_first : (has : A → ℕ) (number : ℕ) (none : B) (xs : List A) → Numbered has 1 xs → first_of (λ x. eqb (has x) number) found none xs ≡ numbered number found none xs
  numbered_first has zero none xs n = rw (none_taken (λ x. eqb (has x) 0) none xs (below has 1 0 xs n (omega arith)), numbered_lacked 0 none xs (inl refl))
  numbered_first has (suc index) none xs n =
      let same : suc (suc index - 1) ≡ suc index = omega arith in
      rw same at (counted has 1 (suc index) none xs n (omega arith))
