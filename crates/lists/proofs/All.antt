-- The laws of what holds of all elements of a list, or of each two.
--     all_of         what holds of everything
--     all_map        what follows from what holds of each
--     all_both       two things together
--     all_append     of two lists together, and all_front and all_back the other way
--     all_mapped     of the images of the elements
--     all_gathered   of the lists of all elements
--     all_swap       of all of one list, for each of another
--     pairs_map      of each two, what follows from what holds of them
--     pairs_gathered of the lists of each two elements
--     pairs_append   of each two of two lists together, and pairs_front, pairs_back and pairs_across the other way
-- Assumes nothing.
use mathlib.Core.List.{List, [], ◌∷◌, ◌++◌, map}
use Rattle.lists.specs.Lists.{All, Pairs, gathered}

pub all_of : {A : Type 0} (P : A → Type 0) → ((x : A) → P x) → (xs : List A) → All P xs
all_of P h [] = tt
all_of P h (x ∷ xs) = (h x, all_of P h xs)

pub all_map : {A : Type 0} (P Q : A → Type 0) → ((x : A) → P x → Q x) → (xs : List A) → All P xs → All Q xs
all_map P Q h [] p = tt
all_map P Q h (x ∷ xs) p = (h x p.0, all_map P Q h xs p.1)

pub all_both : {A : Type 0} (P Q : A → Type 0) (xs : List A) → All P xs → All Q xs → All (λ x. P x × Q x) xs
all_both P Q [] p q = tt
all_both P Q (x ∷ xs) p q = ((p.0, q.0), all_both P Q xs p.1 q.1)

pub all_append : {A : Type 0} (P : A → Type 0) (xs ys : List A) → All P xs → All P ys → All P (xs ++ ys)
all_append P [] ys p q = q
all_append P (x ∷ xs) ys p q = (p.0, all_append P xs ys p.1 q)

pub all_front : {A : Type 0} (P : A → Type 0) (xs ys : List A) → All P (xs ++ ys) → All P xs
all_front P [] ys p = tt
all_front P (x ∷ xs) ys p = (p.0, all_front P xs ys p.1)

pub all_back : {A : Type 0} (P : A → Type 0) (xs ys : List A) → All P (xs ++ ys) → All P ys
all_back P [] ys p = p
all_back P (x ∷ xs) ys p = all_back P xs ys p.1

pub all_mapped : {A B : Type 0} (f : A → B) (P : B → Type 0) (xs : List A) → All (λ x. P (f x)) xs → All P (map f xs)
all_mapped f P [] p = tt
all_mapped f P (x ∷ xs) p = (p.0, all_mapped f P xs p.1)

pub all_gathered : {A B : Type 0} (f : A → List B) (P : B → Type 0) (xs : List A) → All P (gathered f xs) → All (λ x. All P (f x)) xs
all_gathered f P [] p = tt
all_gathered f P (x ∷ xs) p = (all_front P (f x) (gathered f xs) p, all_gathered f P xs (all_back P (f x) (gathered f xs) p))

pub all_swap : {A B : Type 0} (R : A → B → Type 0) (xs : List A) (ys : List B) → All (λ x. All (R x) ys) xs → All (λ y. All (λ x. R x y) xs) ys
all_swap R [] ys p = all_of (λ y. Unit) (λ y. tt) ys
all_swap R (x ∷ xs) ys p = all_both (R x) (λ y. All (λ x. R x y) xs) ys p.0 (all_swap R xs ys p.1)

module _ {A : Type 0} (R : A → A → Type 0) where
  pub pairs_back : (xs ys : List A) → Pairs R (xs ++ ys) → Pairs R ys
  pairs_back [] ys p = p
  pairs_back (x ∷ xs) ys p = pairs_back xs ys p.1

  pub pairs_append : (xs ys : List A) → Pairs R xs → Pairs R ys → All (λ x. All (R x) ys) xs → Pairs R (xs ++ ys)
  pairs_append [] ys p q c = q
  pairs_append (x ∷ xs) ys p q c = (all_append (R x) xs ys p.0 c.0, pairs_append xs ys p.1 q c.1)

  pub pairs_front : (xs ys : List A) → Pairs R (xs ++ ys) → Pairs R xs
  pairs_front [] ys p = tt
  pairs_front (x ∷ xs) ys p = (all_front (R x) xs ys p.0, pairs_front xs ys p.1)

  pub pairs_across : (xs ys : List A) → Pairs R (xs ++ ys) → All (λ x. All (R x) ys) xs
  pairs_across [] ys p = tt
  pairs_across (x ∷ xs) ys p = (all_back (R x) xs ys p.0, pairs_across xs ys p.1)

pub pairs_map : {A : Type 0} (R S : A → A → Type 0) → ((x y : A) → R x y → S x y) → (xs : List A) → Pairs R xs → Pairs S xs
pairs_map R S h [] p = tt
pairs_map R S h (x ∷ xs) p = (all_map (R x) (S x) (h x) xs p.0, pairs_map R S h xs p.1)

-- That something holds of each element of one list with each of another.
abbrev pub Across : {A : Type 0} → (A → A → Type 0) → List A → List A → Type 0
Across R xs ys = All (λ x. All (R x) ys) xs

pub pairs_gathered : {A B : Type 0} (f : A → List B) (R : B → B → Type 0) (xs : List A) → Pairs R (gathered f xs) → Pairs (λ x y. Across R (f x) (f y)) xs
pairs_gathered f R [] p = tt
pairs_gathered f R (x ∷ xs) p =
    let across = pairs_across R (f x) (gathered f xs) p in
    let each = all_map (λ b. All (R b) (gathered f xs)) (λ b. All (λ y. All (R b) (f y)) xs) (λ b h. all_gathered f (R b) xs h) (f x) across in
    (all_swap (λ b y. All (R b) (f y)) (f x) xs each, pairs_gathered f R xs (pairs_back R (f x) (gathered f xs) p))
