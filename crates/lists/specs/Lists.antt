-- What is said of a list as a whole.
use Rattle.std.specs.Prelude.{ℕ, zero, suc, List, [], ◌∷◌, ◌++◌}

-- That something holds of all elements.
abbrev pub All : {A : Type 0} → (A → Type 0) → List A → Type 0
All P [] = Unit
All P (x ∷ xs) = P x × All P xs

-- That something holds of each two elements, an earlier and a later one.
abbrev pub Pairs : {A : Type 0} → (A → A → Type 0) → List A → Type 0
Pairs R [] = Unit
Pairs R (x ∷ xs) = All (R x) xs × Pairs R xs

-- What is left of a start after all elements did their work, in their order, each on what the last one left.
abbrev pub in_turn : {A B : Type 0} → (A → B → B) → List A → B → B
in_turn f [] b = b
in_turn f (x ∷ xs) b = in_turn f xs (f x b)

-- The lists of all elements, one behind the other.
abbrev pub gathered : {A B : Type 0} → (A → List B) → List A → List B
gathered f [] = []
gathered f (x ∷ xs) = f x ++ gathered f xs

-- The list of what each index has, from 0 on.
abbrev pub each : {A : Type 0} → ℕ → (ℕ → A) → List A
each zero f = []
each (suc n) f = f 0 ∷ each n (λ i. f (suc i))
