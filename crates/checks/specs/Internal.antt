-- What serves proofs alone: what is said of the checks of a list.
use Rattle.std.specs.Prelude.{◌≡◌, true, false, List, [], ◌∷◌}
use Rattle.checks.specs.Checks.{Check, ◌⇒◌}

-- That no check of a list fails, as one pair for each.
abbrev pub Passed : {W : Type 0} → List (Check W) → Type 0
Passed [] = Unit
Passed ((fails ⇒ why) ∷ rest) = (fails ≡ false) × Passed rest

-- That something holds of every reason for which a list of checks refuses.
abbrev pub Reasons : {W : Type 0} → (W → Type 0) → List (Check W) → Type 0
Reasons P [] = Unit
Reasons P ((fails ⇒ why) ∷ rest) = P why × Reasons P rest

-- That it holds of each where its check is the first that fails.
abbrev pub First : {W : Type 0} → (W → Type 0) → List (Check W) → Type 0
First P [] = Unit
First P ((fails ⇒ why) ∷ rest) = (fails ≡ true → P why) × (fails ≡ false → First P rest)
