-- The numbers of a segment's answer, in document 01's order.
use Rattle.std.specs.Prelude.{ℕ, List, [], ◌∷◌, Result, Ok, Err}
use Rattle.refusal.specs.Number.{number_of}
use Rattle.refusal.specs.declared.Refusal.{Refusal}
use Rattle.segment.specs.declared.Segment.{Segment}

-- The refusal's number, 0 for none, then "a segment its start, stored length, flags, allocation and record count". "All
-- values in a refusal are 0".
abbrev pub values_of : Result Segment Refusal → List ℕ
values_of (Ok s) = 0 ∷ s.start ∷ s.stored ∷ s.flags ∷ s.allocation ∷ s.records ∷ []
values_of (Err why) = number_of why ∷ 0 ∷ 0 ∷ 0 ∷ 0 ∷ 0 ∷ []
