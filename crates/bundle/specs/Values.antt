-- The numbers of an ordinal's answer, in document 01's order.
use Rattle.std.specs.Prelude.{ℕ, List, [], ◌∷◌, Result, Ok, Err}
use Rattle.refusal.specs.Number.{number_of}
use Rattle.bundle.specs.declared.Entry.{Entry}
use Rattle.refusal.specs.declared.Refusal.{Refusal}

-- The refusal's number, 0 for none, then "an ordinal its segment, offset and flag". "All values in a refusal are 0".
abbrev pub values_of : Result Entry Refusal → List ℕ
values_of (Ok e) = 0 ∷ e.segment ∷ e.offset ∷ e.flag ∷ []
values_of (Err why) = number_of why ∷ 0 ∷ 0 ∷ 0 ∷ []
