-- The numbers of a resource's answer, in document 01's order.
use Rattle.std.specs.Prelude.{ℕ, List, [], ◌∷◌, Result, Ok, Err}
use Rattle.refusal.specs.Number.{number_of}
use Rattle.refusal.specs.declared.Refusal.{Refusal}
use Rattle.resources.specs.declared.Resource.{Resource}

-- The refusal's number, 0 for none, then "a resource its type, id, flags, data place and length". "All values in a refusal
-- are 0".
abbrev pub values_of : Result Resource Refusal → List ℕ
values_of (Ok r) = 0 ∷ r.kind ∷ r.id ∷ r.flags ∷ r.at ∷ r.len ∷ []
values_of (Err why) = number_of why ∷ 0 ∷ 0 ∷ 0 ∷ 0 ∷ 0 ∷ []
