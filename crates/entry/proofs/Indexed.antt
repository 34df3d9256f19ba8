-- The laws of an index.
--     start_index    an index whose elements all are the table's start
--     put_on         a place is put into elements, one after the other
--     put_indexes    an index stays one where a place of the table is put into it
-- Assumes nothing.
use mathlib.Core.Path.{◌≡◌, refl, ◌∙◌}
use mathlib.Core.Logic.{◌⊎◌, inl, inr}
use mathlib.Core.Bool.{Bool, true, false}
use mathlib.Core.List.{List}
use Prim.Native.Nat.{ℕ, zero, suc, ◌*◌, ◌≤◌, ◌<◌}
use native.Mathlib.Omega.{arith}
use borrow.Author.Tests.{eqb-true, eqb-false}
use lib.Dec.{eqb}
use lib.ListN.{length, get_or, set, replicate}
use lib.Seq.{get_or-set_same, get_or-set_other}
use Rattle.entry.specs.declared.index.Place.{Place}
use Rattle.bundle.specs.declared.Bundle.{Bundle}
use Rattle.tables.specs.Table.{Sound}
use Rattle.entry.specs.Table.{table_of}
use Rattle.entry.specs.Internal.{first_place, Mark, Indexes}
use Rattle.entry.proofs.Marks.{mark_start}

-- An element is as it was, or has the place, and stands at `start` or after it.
abbrev pub Put : List Place → List Place → ℕ → Place → ℕ → Type 0
Put before after start place k = (get_or after k first_place ≡ get_or before k first_place) ⊎ ((get_or after k first_place ≡ place) × (start ≤ k))

pub put_on : (before index : List Place) (start element k : ℕ) (place : Place) → start ≤ element → element < length index → Put before index start place k → Put before (set index element place) start place k
put_on before index start element k place low inside p = go (eqb k element) refl p
  where
    go : (same : Bool) → eqb k element ≡ same → Put before index start place k → Put before (set index element place) start place k
    go true e p =
        let is : k ≡ element = eqb-true k element e in
        rw is (inr (get_or-set_same index element place first_place inside, low))
    go false e (inl same) = inl (get_or-set_other index element k place first_place (eqb-false k element e) ∙ same)
    go false e (inr put) = inr (get_or-set_other index element k place first_place (eqb-false k element e) ∙ put.0, put.1)

-- That a place of the table stands there, with this many ordinals before it, if the table is sound.
abbrev pub Marked : List ℕ → ℕ → ℕ → Type 0
Marked table at used = (segments : ℕ) (all : List Bundle) → table_of table segments ≡ Sound all → Mark table segments all at used

pub start_marked : (table : List ℕ) → Marked table 0 0
start_marked table segments all sound = mark_start table segments all sound

at_start : (n k : ℕ) → get_or (replicate n first_place) k first_place ≡ first_place
at_start zero k = refl
at_start (suc n) zero = refl
at_start (suc n) (suc k) = at_start n k

pub start_index : (table : List ℕ) (n : ℕ) → Indexes table (replicate n first_place)
start_index table n = record { low = λ k. rw (at_start n k) (omega arith); marks = λ k. rw (at_start n k) (start_marked table) }

module _ (table : List ℕ) (index index' : List Place) (place : Place) (start : ℕ) (low : place.used ≤ 4 * start) (here : Marked table place.at place.used) (i : Indexes table index) (put : (k : ℕ) → Put index index' start place k) where
  low_put : (k : ℕ) → (get_or index' k first_place).used ≤ 4 * k
  low_put k = go (put k)
    where
      go : Put index index' start place k → (get_or index' k first_place).used ≤ 4 * k
      go (inl same) = rw same (i.low k)
      go (inr p) = rw p.0 (omega (arith, p.1))

  marked_put : (k : ℕ) → Marked table (get_or index' k first_place).at (get_or index' k first_place).used
  marked_put k = go (put k)
    where
      go : Put index index' start place k → Marked table (get_or index' k first_place).at (get_or index' k first_place).used
      go (inl same) = rw same (i.marks k)
      go (inr p) = rw p.0 here

  pub put_indexes : Indexes table index'
  put_indexes = record { low = low_put; marks = marked_put }
