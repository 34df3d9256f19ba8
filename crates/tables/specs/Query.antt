-- What is asked of a list: the element of a number, or the first one that a test takes.
use Rattle.std.specs.Prelude.{ℕ, ◌-◌, Bool, cond, List, [], ◌∷◌, eqb}

-- What follows of the element of a number, counted from 1, or `none` where the list lacks it.
unfoldable pub numbered : {A B : Type 0} → ℕ → (A → B) → B → List A → B
numbered number found none [] = none
numbered number found none (x ∷ xs) = cond (eqb number 1) (found x) (numbered (number - 1) found none xs)

-- What follows of the first element that a test takes, or `none` where it takes no one.
unfoldable pub first_of : {A B : Type 0} → (A → Bool) → (A → B) → B → List A → B
first_of test found none [] = none
first_of test found none (x ∷ xs) = cond (test x) (found x) (first_of test found none xs)
