-- The walk of a table: what it has found so far and the table from a place on give what the whole table gives, and what a walk
-- that was done says about the table.
--     walk_starts    at the table's start nothing is found
--     walk_refused, walk_ends, walk_goes_on   by what stands at a place
--     sound_answer, unsound_answer   what an ordinal answers, from the walk's answer
-- Assumes nothing.
use Rattle.std.specs.Prelude.{Ok, Err, Some, None}
use mathlib.Core.Path.{◌≡◌, ◌∙◌, refl, ap, sym}
use mathlib.Core.Bool.{cond}
use mathlib.Core.List.{List, [], ◌∷◌}
use Prim.Native.Nat.{ℕ, ◌+◌}
use native.Mathlib.Omega.{arith}
use lib.ListN.{drop}
use Rattle.checks.proofs.Impossible.{never}
use Rattle.refusal.specs.declared.Refusal.{Refusal}
use Rattle.entry.specs.declared.Found.{Found}
use Rattle.bundle.specs.declared.Bundle.{Bundle}
use Rattle.entry.specs.declared.Slot.{Slot}
use Rattle.bundle.specs.Bundle.{entry_of, step_of}
use Rattle.bundle.proofs.Went.{went}
use Rattle.tables.specs.Table.{Sound, Unsound, after}
use Rattle.entry.specs.Table.{EntryTable, table_at, table_of, slot_in, ordinals_in, covers, slot_of, no_slot}
use Rattle.entry.specs.Internal.{walk_of, found_of, last_in}
use Rattle.entry.specs.Ordinal.{in_table}
use Rattle.entry.proofs.Follow.{sound_follow, last_is_first}
use Rattle.entry.proofs.Turns.{unrolled, whole}

found_all : (table : List ℕ) (segments number : ℕ) (t : EntryTable) → table_of table segments ≡ t → found_of 0 no_slot number t ≡ walk_of t number
unfolding found_of
found_all table segments number (Sound bs) e =
    let all : 0 + ordinals_in bs ≡ ordinals_in bs = omega arith in
    rw (all, last_is_first 0 number bs (sound_follow table segments bs e))
found_all table segments number (Unsound why) e = refl

found_more : (used number : ℕ) (slot : Slot) (b : Bundle) (t : EntryTable) → b.used ≡ used → found_of used slot number (after (b ∷ []) t) ≡ found_of (b.used + b.count) (cond (covers b number) (slot_of b number) slot) number t
unfolding found_of ordinals_in last_in
found_more used number slot b (Sound bs) e =
    let sum : used + (b.count + ordinals_in bs) ≡ b.used + b.count + ordinals_in bs = omega arith in
    ap (λ (n : ℕ). Ok (record { ordinals = n; slot = last_in (cond (covers b number) (slot_of b number) slot) bs number })) sum
found_more used number slot b (Unsound why) e = refl

pub walk_starts : (table : List ℕ) (segments number : ℕ) → found_of 0 no_slot number (table_at table segments 0 0) ≡ walk_of (table_of table segments) number
walk_starts table segments number = sym (ap (found_of 0 no_slot number) (whole table segments)) ∙ found_all table segments number (table_of table segments) refl

module _ (table : List ℕ) (segments at used number : ℕ) (slot : Slot) where
  pub walk_refused : (why : Refusal) → step_of table segments at used ≡ Err why → found_of used slot number (table_at table segments at used) ≡ Err why
  unfolding found_of
  walk_refused why e = ap (found_of used slot number) (unrolled table segments at used _ e)

  pub walk_ends : step_of table segments at used ≡ Ok None → found_of used slot number (table_at table segments at used) ≡ Ok (record { ordinals = used; slot = slot })
  unfolding found_of ordinals_in last_in
  walk_ends e =
      let all : used + 0 ≡ used = omega arith in
      ap (found_of used slot number) (unrolled table segments at used _ e) ∙ rw all

  pub walk_goes_on : (b : Bundle) → step_of table segments at used ≡ Ok (Some b) → found_of used slot number (table_at table segments at used) ≡ found_of (b.used + b.count) (cond (covers b number) (slot_of b number) slot) number (table_at table segments b.end (b.used + b.count))
  walk_goes_on b e =
      let t = table_at table segments b.end (b.used + b.count) in
      let w = went table segments at used b e in
      ap (found_of used slot number) (unrolled table segments at used _ e) ∙ found_more used number slot b t w.base

pub sound_answer : (table : List ℕ) (t : EntryTable) (number : ℕ) (f : Found) → walk_of t number ≡ Ok f → in_table table t number ≡ entry_of f.slot.kind (drop f.slot.at table)
sound_answer table (Sound bs) number f e =
    let is : f ≡ record { ordinals = ordinals_in bs; slot = slot_in bs number } = cc in
    rw is
sound_answer table (Unsound why) number f e = never cc

pub unsound_answer : (table : List ℕ) (t : EntryTable) (number : ℕ) (why : Refusal) → walk_of t number ≡ Err why → in_table table t number ≡ Err why
unsound_answer table (Sound bs) number why e = never cc
unsound_answer table (Unsound other) number why e = let is : why ≡ other = cc in rw is
