-- A record can be read from its own bytes.
--     own_bytes   from its own 8
--     from_own    from the list that starts with them
-- Assumes nothing.
use mathlib.Core.Path.{◌≡◌, refl, ◌∙◌}
use mathlib.Core.List.{List}
use Prim.Native.Nat.{ℕ, zero, suc, ◌+◌, ◌*◌, ◌≤◌, ◌<◌}
use native.Mathlib.Omega.{arith}
use lib.ListN.{drop}
use lib.Seq.{get_or-take, get_or-drop}
use Rattle.le.specs.Number.{number, byte_at}
use Rattle.fixup.specs.Record.{record_at, bytes_at}

-- From any list whose first 8 bytes are the record's.
module _ (part own : List ℕ) (index : ℕ) (same : (i : ℕ) → i < 8 → byte_at own i ≡ byte_at part (8 * index + i)) where
  number_own : (width i : ℕ) → i + width ≤ 8 → number width own i ≡ number width part (8 * index + i)
  unfolding number
  number_own zero i h = refl
  number_own (suc width) i h =
      let on : suc (8 * index + i) ≡ 8 * index + suc i = omega arith in
      rw (same i (omega arith), on, number_own width (suc i) (omega arith))

  -- The last field ends at the last of the 8 bytes.
  last_own : (record_at own 0).last ≡ (record_at part index).last
  unfolding record_at
  last_own = number_own 2 6 (omega arith)

  fields_own : record_at own 0 ≡ record_at part index
  unfolding record_at
  fields_own =
      let first : 8 * index + 0 ≡ 8 * index = omega arith in
      rw (same 0 (omega arith), same 1 (omega arith), number_own 2 2 (omega arith), number_own 2 4 (omega arith), last_own, first)

module _ (part : List ℕ) (index : ℕ) where
  pub from_own : record_at (drop (8 * index) part) 0 ≡ record_at part index
  from_own = fields_own part (drop (8 * index) part) index (λ i h. get_or-drop (8 * index) part i 0)

  pub own_bytes : record_at (bytes_at part index) 0 ≡ record_at part index
  own_bytes = fields_own part (bytes_at part index) index (λ i h. get_or-take 8 (drop (8 * index) part) i 0 h ∙ get_or-drop (8 * index) part i 0)
