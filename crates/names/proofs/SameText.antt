-- The laws of comparing two strings.
--     by_equality      the library's equality of slices compares them
--     lengths_differ   strings of different lengths aren't the same
--     one_byte         the first byte decides, or else those after it
--     equal_byte       an equal byte leaves it to those after it
--     none_left        where none is left they are the same
--     same_is          strings that are the same are equal
--     same_self        and equal ones are the same
-- Assumes nothing.
use mathlib.Core.Path.{◌≡◌, refl, sym, ◌∙◌, ap}
use mathlib.Core.Bool.{Bool, true, false, ◌&&◌}
use mathlib.Core.List.{List, [], ◌∷◌}
use Prim.Native.Nat.{ℕ, suc, ◌+◌, ◌≤◌, ◌<◌}
use native.Mathlib.Numerals.{add-one}
use borrow.Author.Tests.{eq-eqb}
use lib.Dec.{eqb}
use lib.ListN.{length, drop, get_or, drop_of_length-le}
use lib.Seq.{drop-cons}
use lib.Pointwise.{pointwise, bytes_decides}
use Rattle.names.specs.Text.{same}

pub by_equality : (a b : List ℕ) → same a b ≡ pointwise eqb a b
unfolding same
by_equality [] [] = refl
by_equality [] (y ∷ b) = refl
by_equality (x ∷ a) [] = refl
by_equality (x ∷ a) (y ∷ b) = ap (λ t. eqb x y && t) (by_equality a b)

pub lengths_differ : (a b : List ℕ) → (length a ≡ length b → ⊥) → same a b ≡ false
unfolding same
lengths_differ [] [] n = absurd (n refl)
lengths_differ [] (y ∷ b) n = refl
lengths_differ (x ∷ a) [] n = refl
lengths_differ (x ∷ a) (y ∷ b) n = go (eqb x y) (lengths_differ a b (λ e. n (rw e)))
  where
    go : (t : Bool) → same a b ≡ false → (t && same a b) ≡ false
    go true e = e
    go false e = refl

pub none_left : (a b : List ℕ) (i : ℕ) → length a ≤ i → length b ≤ i → same (drop i a) (drop i b) ≡ true
unfolding same
none_left a b i h k = rw (drop_of_length-le a h, drop_of_length-le b k)

pub one_byte : (a b : List ℕ) (i : ℕ) → i < length a → i < length b → same (drop i a) (drop i b) ≡ (eqb (get_or a i 0) (get_or b i 0) && same (drop (suc i) a) (drop (suc i) b))
unfolding same
one_byte a b i h k = rw (drop-cons a i 0 h, drop-cons b i 0 k)

pub equal_byte : (a b : List ℕ) (i : ℕ) → i < length a → i < length b → get_or a i 0 ≡ get_or b i 0 → same (drop i a) (drop i b) ≡ same (drop (i + 1) a) (drop (i + 1) b)
equal_byte a b i h k e = one_byte a b i h k ∙ rw (e, eq-eqb (get_or b i 0) (get_or b i 0) refl, add-one i)

pub same_is : (a b : List ℕ) → same a b ≡ true → a ≡ b
same_is a b e = (bytes_decides a b).0 (sym (by_equality a b) ∙ e)

pub same_self : (a : List ℕ) → same a a ≡ true
same_self a = by_equality a a ∙ (bytes_decides a a).1 refl
