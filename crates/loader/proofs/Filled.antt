-- The laws of what the output and the marks are filled with.
--     copied_front   a copy of fewer bytes leaves what is behind them
--     copied_whole   a copy of as many bytes leaves these
--     filled         the bytes copied, then zeros up to the allocation
--     zeros_front, zeros_behind, part_size   the parts of a list of zeros
-- Assumes nothing.
use mathlib.Core.Path.{◌≡◌, refl, ap, ◌∙◌}
use mathlib.Core.List.{List, ◌∷◌, ◌++◌, append-nil, append_assoc}
use Prim.Native.Nat.{ℕ, zero, suc, ◌+◌, ◌-◌, ◌≤◌, min}
use native.Mathlib.Omega.{arith}
use lib.ListN.{length, take, drop, drop_of_length-le, length-replicate}
use lib.Seq.{take-length, take-append_seam, drop-append_seam, drop-drop}
use Rattle.le.specs.Slice.{copied, zeros}
use Rattle.site.specs.Prepared.{unfixed}

pub copied_front : (bytes output : List ℕ) → length bytes ≤ length output → copied bytes output ≡ bytes ++ drop (length bytes) output
copied_front bytes output fits =
    let all : min (length bytes) (length output) ≡ length bytes = omega arith in
    rw (all, take-length bytes)

pub copied_whole : (bytes output : List ℕ) → length output ≡ length bytes → copied bytes output ≡ bytes
copied_whole bytes output same =
    let fits : length bytes ≤ length output = omega arith in
    let past : length output ≤ length bytes = omega arith in
    copied_front bytes output fits ∙ rw (drop_of_length-le output past, append-nil bytes)

pub filled : (bytes output : List ℕ) (allocation : ℕ) → length bytes ≤ allocation → allocation ≤ length output → take (length bytes) (copied bytes output) ++ (zeros (allocation - length bytes) ++ drop (allocation - length bytes) (drop (length bytes) (copied bytes output))) ≡ unfixed bytes allocation ++ drop allocation output
filled bytes output allocation few fits =
    let on : length bytes + (allocation - length bytes) ≡ allocation = omega arith in
    let room : length bytes ≤ length output = omega arith in
    rw (copied_front bytes output room, take-append_seam bytes (drop (length bytes) output), drop-append_seam bytes (drop (length bytes) output), drop-drop (allocation - length bytes) (length bytes) output, on, append_assoc bytes (zeros (allocation - length bytes)) (drop allocation output)) refl

pub zeros_front : (few many : ℕ) → few ≤ many → take few (zeros many) ≡ zeros few
zeros_front zero many h = refl
zeros_front (suc few) zero h = absurd (omega arith)
zeros_front (suc few) (suc many) h = ap (0 ∷◌) (zeros_front few many (omega arith))

pub zeros_behind : (few many : ℕ) → drop few (zeros many) ≡ zeros (many - few)
zeros_behind zero many = let all : many - 0 ≡ many = omega arith in rw all
zeros_behind (suc few) zero = let none : 0 - suc few ≡ 0 = omega arith in rw none
zeros_behind (suc few) (suc many) = let rest : suc many - suc few ≡ many - few = omega arith in rw rest (zeros_behind few many)

pub part_size : (few many : ℕ) → few ≤ many → length (take few (zeros many)) ≡ few
part_size few many h = rw (zeros_front few many h) (length-replicate few 0)
