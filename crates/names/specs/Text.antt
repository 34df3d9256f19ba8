-- Comparing two strings. Document 01, "Names": "A lookup compares exact bytes".
use Rattle.std.specs.Prelude.{ℕ, Bool, true, false, ◌&&◌, List, [], ◌∷◌, eqb}

unfoldable pub same : List ℕ → List ℕ → Bool
same [] [] = true
same [] (b ∷ others) = false
same (a ∷ rest) [] = false
same (a ∷ rest) (b ∷ others) = eqb a b && same rest others
