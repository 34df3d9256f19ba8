-- The bundles of a sound table follow each other, so each ordinal is covered once at most.
--     sound_follow   each bundle starts where the one before it ended
--     ordinals_few   there are at most 65,535 ordinals
--     later          a bundle of a list uses no ordinal from before it
--     last_is_first  the last bundle that covers an ordinal is the first one
-- Assumes nothing.
use mathlib.Core.Path.{◌≡◌, refl, sym}
use mathlib.Core.Logic.{inl, inr}
use mathlib.Core.Bool.{Bool, true, false, cond}
use mathlib.Core.List.{List, [], ◌∷◌}
use Prim.Native.Nat.{ℕ, ◌+◌, ◌≤◌}
use native.Mathlib.Omega.{arith}
use borrow.Author.Tests.{le-ltb}
use Rattle.bundle.specs.declared.Bundle.{Bundle}
use Rattle.entry.specs.declared.Slot.{Slot}
use Rattle.tables.specs.Table.{Sound}
use Rattle.entry.specs.Table.{table_of, covers, slot_of, no_slot, slot_in, ordinals_in}
use Rattle.entry.specs.Covered.{Among}
use Rattle.entry.specs.Internal.{last_in}
use Rattle.entry.proofs.Covers.{covered}
use Rattle.entry.proofs.Induction.{sound_table}

abbrev pub Follow : ℕ → List Bundle → Type 0
Follow used [] = Unit
Follow used (b ∷ bs) = (b.used ≡ used) × Follow (used + b.count) bs

pub sound_follow : (table : List ℕ) (segments : ℕ) (bs : List Bundle) → table_of table segments ≡ Sound bs → Follow 0 bs
sound_follow table segments = sound_table table segments (λ at used bs. Follow used bs) (λ at used. tt) (λ at used b bs w f. (w.base, rw (sym w.base) f))

-- "14: over 65,535 ordinals": a sound table has no more.
pub ordinals_few : (table : List ℕ) (segments : ℕ) (bs : List Bundle) → table_of table segments ≡ Sound bs → ordinals_in bs ≤ 65535
unfolding ordinals_in
ordinals_few table segments bs e = let all = counted bs e (omega arith) in omega (arith, all)
  where
    counted : (bs : List Bundle) → table_of table segments ≡ Sound bs → 0 ≤ 65535 → 0 + ordinals_in bs ≤ 65535
    counted = sound_table table segments (λ at used bs. used ≤ 65535 → used + ordinals_in bs ≤ 65535) (λ at used h. omega arith) (λ at used b bs w f h. let rest = f w.few in omega (arith, rest, w.base))

pub later : (used : ℕ) (b : Bundle) (bs : List Bundle) → Follow used bs → Among b bs → used ≤ b.used
later used b [] f m = absurd m
later used b (first ∷ bs) f (inl e) = let same : first.used ≤ b.used = rw e (omega arith) in omega (arith, f.0, same)
later used b (first ∷ bs) f (inr m) = let rest = later (used + first.count) b bs f.1 m in omega (arith, rest)

-- An ordinal that came before a list isn't covered there.
passed_by : (slot : Slot) (used number : ℕ) (bs : List Bundle) → Follow used bs → number ≤ used → last_in slot bs number ≡ slot
unfolding last_in
passed_by slot used number [] f h = refl
passed_by slot used number (b ∷ bs) f h =
    let low : number ≤ b.used = omega (arith, f.0) in
    let behind : number ≤ used + b.count = omega arith in
    rw (le-ltb b.used number low) (passed_by slot (used + b.count) number bs f.1 behind)

pub last_is_first : (used number : ℕ) (bs : List Bundle) → Follow used bs → last_in no_slot bs number ≡ slot_in bs number
unfolding last_in slot_in
last_is_first used number [] f = refl
last_is_first used number (b ∷ bs) f = go (covers b number) refl (last_is_first (used + b.count) number bs f.1)
  where
    go : (t : Bool) → covers b number ≡ t → last_in no_slot bs number ≡ slot_in bs number → last_in (cond (covers b number) (slot_of b number) no_slot) bs number ≡ cond (covers b number) (slot_of b number) (slot_in bs number)
    go true e rest =
        let c = covered b number e in
        let behind : number ≤ used + b.count = omega (arith, c.1, f.0) in
        rw e (passed_by (slot_of b number) (used + b.count) number bs f.1 behind)
    go false e rest = rw e rest
