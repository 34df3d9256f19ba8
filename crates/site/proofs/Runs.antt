-- The laws of runs of bytes that are stored in a list one after the other, where each element has its run.
--     length_runs   the list keeps its length
--     kept          a byte that no run hits is as it was
--     there         where no byte is hit twice, each run stands in the list at the end
--     exchange      two runs that hit no byte both can be stored in either order
--     runs_front    runs that lie in the front of a list leave what is behind it
-- Assumes nothing.
use mathlib.Core.Path.{◌≡◌, refl, ◌∙◌}
use mathlib.Core.List.{List, [], ◌∷◌, ◌++◌}
use Prim.Native.Nat.{ℕ, zero, suc, ◌+◌, ◌≤◌, ◌<◌}
use native.Mathlib.Omega.{arith}
use lib.ListN.{length, set, length-set}
use lib.Seq.{sets, length-sets, set_comm, set-append_left, get_or-set_same, get_or-set_other}
use Rattle.le.specs.Number.{byte_at}
use Rattle.lists.specs.Lists.{All, Pairs, in_turn}
use Rattle.lists.proofs.All.{all_map}

pub sets_out : (l : List ℕ) (i : ℕ) (vs : List ℕ) (p : ℕ) → (i ≤ p → p < i + length vs → ⊥) → byte_at (sets l i vs) p ≡ byte_at l p
sets_out l i [] p h = refl
sets_out l i (a ∷ vs) p h =
    let other : p ≡ i → ⊥ = λ e. h (omega arith) (omega arith) in
    sets_out (set l i a) (suc i) vs p (λ low high. h (omega arith) (omega arith)) ∙ get_or-set_other l i p a 0 other

pub sets_in : (l : List ℕ) (i : ℕ) (vs : List ℕ) (k : ℕ) → k < length vs → i + length vs ≤ length l → byte_at (sets l i vs) (i + k) ≡ byte_at vs k
sets_in l i [] k h f = absurd (omega arith)
sets_in l i (a ∷ vs) zero h f =
    let here : i + 0 ≡ i = omega arith in
    rw here (sets_out (set l i a) (suc i) vs i (λ low high. omega arith) ∙ get_or-set_same l i a 0 (omega arith))
sets_in l i (a ∷ vs) (suc k) h f =
    let on : i + suc k ≡ suc i + k = omega arith in
    let fits : suc i + length vs ≤ length (set l i a) = omega (arith, length-set l i a) in
    rw on (sets_in (set l i a) (suc i) vs k (omega arith) fits)

set_sets : (l : List ℕ) (i : ℕ) (vs : List ℕ) (j b : ℕ) → (i ≤ j → j < i + length vs → ⊥) → sets (set l j b) i vs ≡ set (sets l i vs) j b
set_sets l i [] j b h = refl
set_sets l i (a ∷ vs) j b h =
    let other : j ≡ i → ⊥ = λ e. h (omega arith) (omega arith) in
    rw (set_comm l j i b a other) (set_sets (set l i a) (suc i) vs j b (λ low high. h (omega arith) (omega arith)))

sets_sets : (l : List ℕ) (i : ℕ) (vs : List ℕ) (j : ℕ) (ws : List ℕ) → ((p : ℕ) → i ≤ p → p < i + length vs → j ≤ p → p < j + length ws → ⊥) → sets (sets l i vs) j ws ≡ sets (sets l j ws) i vs
sets_sets l i vs j [] h = refl
sets_sets l i vs j (b ∷ ws) h =
    rw (← (set_sets l i vs j b (λ low high. h j low high (omega arith) (omega arith))))
    (sets_sets (set l j b) i vs (suc j) ws (λ p low high low' high'. h p low high (omega arith) (omega arith)))

sets_front : (l m : List ℕ) (i : ℕ) (vs : List ℕ) → i + length vs ≤ length l → sets (l ++ m) i vs ≡ sets l i vs ++ m
sets_front l m i [] h = refl
sets_front l m i (a ∷ vs) h =
    let fits : suc i + length vs ≤ length (set l i a) = omega (arith, length-set l i a) in
    rw (set-append_left l m i a (omega arith)) (sets_front (set l i a) m (suc i) vs fits)

module _ {A : Type 0} (at : A → ℕ) (bytes : A → List ℕ) where
  abbrev pub store : A → List ℕ → List ℕ
  store x l = sets l (at x) (bytes x)

  abbrev pub Hits : ℕ → A → Type 0
  Hits p x = (at x ≤ p) × (p < at x + length (bytes x))

  abbrev pub Clear : A → A → Type 0
  Clear x y = (p : ℕ) → Hits p x → Hits p y → ⊥

  pub length_runs : (xs : List A) (l : List ℕ) → length (in_turn store xs l) ≡ length l
  length_runs [] l = refl
  length_runs (x ∷ xs) l = length_runs xs (store x l) ∙ length-sets l (at x) (bytes x)

  pub kept : (xs : List A) (l : List ℕ) (p : ℕ) → All (λ x. Hits p x → ⊥) xs → byte_at (in_turn store xs l) p ≡ byte_at l p
  kept [] l p h = refl
  kept (x ∷ xs) l p h = kept xs (store x l) p h.1 ∙ sets_out l (at x) (bytes x) p (λ low high. h.0 (low, high))

  pub there : (xs : List A) (l : List ℕ) → Pairs Clear xs → All (λ x. at x + length (bytes x) ≤ length l) xs → All (λ x. (i : ℕ) → i < length (bytes x) → byte_at (in_turn store xs l) (at x + i) ≡ byte_at (bytes x) i) xs
  there [] l c f = tt
  there (x ∷ xs) l c f = (first, there xs (store x l) c.1 (all_map (λ y. at y + length (bytes y) ≤ length l) (λ y. at y + length (bytes y) ≤ length (store x l)) fits xs f.1))
    where
      fits : (y : A) → at y + length (bytes y) ≤ length l → at y + length (bytes y) ≤ length (store x l)
      fits y h = omega (arith, length-sets l (at x) (bytes x))

      first : (i : ℕ) → i < length (bytes x) → byte_at (in_turn store xs (store x l)) (at x + i) ≡ byte_at (bytes x) i
      first i h =
          let own : Hits (at x + i) x = (omega arith, omega arith) in
          kept xs (store x l) (at x + i) (all_map (Clear x) (λ y. Hits (at x + i) y → ⊥) (λ y k. k (at x + i) own) xs c.0)
          ∙ sets_in l (at x) (bytes x) i h f.0

  pub exchange : (x y : A) → Clear x y → (l : List ℕ) → store y (store x l) ≡ store x (store y l)
  exchange x y c l = sets_sets l (at x) (bytes x) (at y) (bytes y) (λ p low high low' high'. c p (low, high) (low', high'))

  pub runs_front : (xs : List A) (l m : List ℕ) → All (λ x. at x + length (bytes x) ≤ length l) xs → in_turn store xs (l ++ m) ≡ in_turn store xs l ++ m
  runs_front [] l m f = refl
  runs_front (x ∷ xs) l m f = rw (sets_front l m (at x) (bytes x) f.0) (runs_front xs (store x l) m (all_map (λ y. at y + length (bytes y) ≤ length l) (λ y. at y + length (bytes y) ≤ length (store x l)) (λ y h. omega (arith, length-sets l (at x) (bytes x))) xs f.1))
