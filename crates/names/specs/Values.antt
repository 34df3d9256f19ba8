-- The numbers of a name's answer, in document 01's order.
use Rattle.std.specs.Prelude.{ℕ, List, [], ◌∷◌, Result, Ok, Err}
use Rattle.refusal.specs.Number.{number_of}
use Rattle.names.specs.declared.Name.{Name}
use Rattle.refusal.specs.declared.Refusal.{Refusal}

-- The refusal's number, 0 for none, then "a name (by number or by bytes) its number, text place, text length and ordinal
-- word". "All values in a refusal are 0".
abbrev pub values_of : Result Name Refusal → List ℕ
values_of (Ok n) = 0 ∷ n.number ∷ n.at ∷ n.len ∷ n.ordinal ∷ []
values_of (Err why) = number_of why ∷ 0 ∷ 0 ∷ 0 ∷ 0 ∷ []
