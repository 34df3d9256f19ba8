-- The laws of permutations.
--     all_permuted     what holds of all elements holds of all in another order
--     pairs_permuted   what holds of each two holds of each two in another order, if it is symmetric
--     turns_permuted   the order of what each does in turn doesn't matter, where each two can be exchanged
--     turns_append     two lists together do what the first does, and then the second
--     turns_gathered   so do the lists of all elements
--     turns_exchange   what two lists do can be exchanged, where each of one and each of the other can
-- Assumes nothing.
use mathlib.Core.Path.{◌≡◌, refl, ◌∙◌, subst}
use mathlib.Core.List.{List, [], ◌∷◌, ◌++◌, Permᴰ}
use Rattle.lists.specs.Lists.{All, Pairs, in_turn, gathered}

pub turns_append : {A B : Type 0} (f : A → B → B) (xs ys : List A) (b : B) → in_turn f (xs ++ ys) b ≡ in_turn f ys (in_turn f xs b)
turns_append f [] ys b = refl
turns_append f (x ∷ xs) ys b = turns_append f xs ys (f x b)

pub turns_gathered : {A B C : Type 0} (f : A → B → B) (own : C → List A) (cs : List C) (b : B) → in_turn f (gathered own cs) b ≡ in_turn (λ c b. in_turn f (own c) b) cs b
turns_gathered f own [] b = refl
turns_gathered f own (c ∷ cs) b = turns_append f (own c) (gathered own cs) b ∙ turns_gathered f own cs (in_turn f (own c) b)

module _ {A B : Type 0} (f : A → B → B) where
  abbrev pub Exchange : A → A → Type 0
  Exchange x y = (b : B) → f y (f x b) ≡ f x (f y b)

  exchange_one : (x : A) (ys : List A) → All (Exchange x) ys → (b : B) → in_turn f ys (f x b) ≡ f x (in_turn f ys b)
  exchange_one x [] e b = refl
  exchange_one x (y ∷ ys) e b = rw (e.0 b) (exchange_one x ys e.1 (f y b))

  pub turns_exchange : (xs ys : List A) → All (λ x. All (Exchange x) ys) xs → (b : B) → in_turn f ys (in_turn f xs b) ≡ in_turn f xs (in_turn f ys b)
  turns_exchange [] ys e b = refl
  turns_exchange (x ∷ xs) ys e b = turns_exchange xs ys e.1 (f x b) ∙ rw (exchange_one x ys e.0 b)

pub all_permuted : {A : Type 0} (P : A → Type 0) {xs ys : List A} → Permᴰ xs ys → All P xs → All P ys
all_permuted P Permᴰ.nil p = tt
all_permuted P (Permᴰ.cons e d) p = (subst P e p.0, all_permuted P d p.1)
all_permuted P (Permᴰ.swap e₁ e₂) p = (subst P e₂ p.1.0, (subst P e₁ p.0, p.1.1))
all_permuted P (Permᴰ.trans d₁ d₂) p = all_permuted P d₂ (all_permuted P d₁ p)

module _ {A : Type 0} (R : A → A → Type 0) (symmetric : (x y : A) → R x y → R y x) where
  pub pairs_permuted : {xs ys : List A} → Permᴰ xs ys → Pairs R xs → Pairs R ys
  pairs_permuted Permᴰ.nil p = tt
  pairs_permuted (Permᴰ.cons {b = y} {l₁ = xs} e d) p =
      (all_permuted (R y) d (subst (λ x. All (R x) xs) e p.0), pairs_permuted d p.1)
  pairs_permuted (Permᴰ.swap {a = x} {b = y} {a' = y'} {b' = x'} {l = l} e₁ e₂) p =
      let across : R y' x' = subst (λ z. R z x') e₂ (subst (λ z. R y z) e₁ (symmetric x y p.0.0)) in
      let first : All (R y') l = subst (λ z. All (R z) l) e₂ p.1.0 in
      let second : All (R x') l = subst (λ z. All (R z) l) e₁ p.0.1 in
      ((across, first), (second, p.1.1))
  pairs_permuted (Permᴰ.trans d₁ d₂) p = pairs_permuted d₂ (pairs_permuted d₁ p)

  module _ {B : Type 0} (f : A → B → B) (exchange : (x y : A) → R x y → (b : B) → f y (f x b) ≡ f x (f y b)) where
    pub turns_permuted : {xs ys : List A} → Permᴰ xs ys → Pairs R xs → (b : B) → in_turn f xs b ≡ in_turn f ys b
    turns_permuted Permᴰ.nil p b = refl
    turns_permuted (Permᴰ.cons e d) p b = rw e (turns_permuted d p.1 _)
    turns_permuted (Permᴰ.swap {a = x} {b = y} {l = l} e₁ e₂) p b = rw (← e₁, ← e₂, exchange x y p.0.0 b)
    turns_permuted (Permᴰ.trans d₁ d₂) p b = turns_permuted d₁ p b ∙ turns_permuted d₂ (pairs_permuted d₁ p) b
