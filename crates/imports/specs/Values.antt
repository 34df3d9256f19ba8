-- The numbers of a module's answer, in document 01's order.
use Rattle.std.specs.Prelude.{ℕ, List, [], ◌∷◌, Result, Ok, Err}
use Rattle.refusal.specs.Number.{number_of}
use Rattle.imports.specs.declared.Text.{Text}
use Rattle.refusal.specs.declared.Refusal.{Refusal}

-- The refusal's number, 0 for none, then "a module its text place and length". "All values in a refusal are 0".
abbrev pub values_of : Result Text Refusal → List ℕ
values_of (Ok text) = 0 ∷ text.at ∷ text.len ∷ []
values_of (Err why) = number_of why ∷ 0 ∷ 0 ∷ []
