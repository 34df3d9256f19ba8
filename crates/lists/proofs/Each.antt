-- The laws of a list that is given by its indices.
--     each_same    two that have the same at each index are equal
--     each_mapped  what becomes of each element is what becomes of each index
--     all_each     what holds at each index holds of all, and each_all the other way
--     each_from    from an index on, it has what the index has and then what follows; each_end: behind the last, nothing
-- Assumes nothing.
use mathlib.Core.Path.{◌≡◌, refl, ap, ap₂}
use mathlib.Core.List.{List, [], ◌∷◌, map}
use Prim.Native.Nat.{ℕ, zero, suc, ◌<◌}
use native.Mathlib.Omega.{arith}
use lib.ListN.{drop}
use Rattle.lists.specs.Lists.{All, each}

pub each_same : {A : Type 0} (n : ℕ) (f g : ℕ → A) → ((i : ℕ) → i < n → f i ≡ g i) → each n f ≡ each n g
each_same zero f g h = refl
each_same {A} (suc n) f g h =
    let first : f 0 ≡ g 0 = h 0 (omega arith) in
    ap₂ (λ (a : A) (l : List A). a ∷ l) first (each_same n (λ i. f (suc i)) (λ i. g (suc i)) (λ i k. h (suc i) (omega arith)))

pub each_mapped : {A B : Type 0} (n : ℕ) (f : ℕ → A) (g : A → B) → map g (each n f) ≡ each n (λ i. g (f i))
each_mapped zero f g = refl
each_mapped (suc n) f g = ap (λ (l : List _). g (f 0) ∷ l) (each_mapped n (λ i. f (suc i)) g)

pub all_each : {A : Type 0} (P : A → Type 0) (n : ℕ) (f : ℕ → A) → ((i : ℕ) → i < n → P (f i)) → All P (each n f)
all_each P zero f h = tt
all_each P (suc n) f h = (h 0 (omega arith), all_each P n (λ i. f (suc i)) (λ i k. h (suc i) (omega arith)))

pub each_all : {A : Type 0} (P : A → Type 0) (n : ℕ) (f : ℕ → A) → All P (each n f) → (i : ℕ) → i < n → P (f i)
each_all P zero f p i h = absurd (omega arith)
each_all P (suc n) f p zero h = p.0
each_all P (suc n) f p (suc i) h = each_all P n (λ i. f (suc i)) p.1 i (omega arith)

pub each_from : {A : Type 0} (n : ℕ) (f : ℕ → A) (i : ℕ) → i < n → drop i (each n f) ≡ f i ∷ drop (suc i) (each n f)
each_from zero f i h = absurd (omega arith)
each_from (suc n) f zero h = refl
each_from (suc n) f (suc i) h = each_from n (λ i. f (suc i)) i (omega arith)

pub each_end : {A : Type 0} (n : ℕ) (f : ℕ → A) → drop n (each n f) ≡ []
each_end zero f = refl
each_end (suc n) f = each_end n (λ i. f (suc i))
