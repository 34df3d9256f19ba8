-- The numbers of a header's answer.
use Rattle.std.specs.Prelude.{ℕ, List, [], ◌∷◌, Result, Ok, Err}
use Rattle.refusal.specs.Number.{number_of}
use Rattle.header.specs.declared.Header.{Header}
use Rattle.refusal.specs.declared.Refusal.{Refusal}

-- The refusal's number, 0 for none, then the place of the NE header, the bytes of a sector, each sized table's place and size,
-- and the places of the other tables. "All values in a refusal are 0".
abbrev pub values_of : Result Header Refusal → List ℕ
values_of (Ok h) =
    0
    ∷ h.ne
    ∷ h.unit
    ∷ h.segments.at
    ∷ h.segments.count
    ∷ h.modules.at
    ∷ h.modules.count
    ∷ h.entries.at
    ∷ h.entries.count
    ∷ h.nonresident.at
    ∷ h.nonresident.count
    ∷ h.resident
    ∷ h.imported
    ∷ h.resources
    ∷ []
values_of (Err why) = number_of why ∷ 0 ∷ 0 ∷ 0 ∷ 0 ∷ 0 ∷ 0 ∷ 0 ∷ 0 ∷ 0 ∷ 0 ∷ 0 ∷ 0 ∷ 0 ∷ []
