-- An ordinal that resolves names a segment of the module: 13 was tested for each entry of the table.
-- Assumes nothing.
use Rattle.std.specs.Prelude.{Result, Ok, Err, Option, Some, None}
use mathlib.Core.Path.{◌≡◌, refl}
use mathlib.Core.Logic.{◌⊎◌, inl, inr}
use mathlib.Core.Bool.{false}
use mathlib.Core.List.{List, [], ◌∷◌, ◌++◌}
use Prim.Native.Nat.{ℕ, ◌-◌, ◌<◌}
use native.Mathlib.Omega.{arith}
use lib.ListN.{length, drop}
use Rattle.checks.proofs.Impossible.{never}
use Rattle.lists.specs.Lists.{All}
use Rattle.lists.proofs.All.{all_append}
use Rattle.refusal.specs.declared.Refusal.TheVariants.{EntryTableEnds}
use Rattle.header.specs.Header.{lacks}
use Rattle.header.specs.declared.Header.{Header}
use Rattle.tables.specs.Table.{Place, Next, Sound, Unsound}
use Rattle.tables.proofs.Induction as tables
use Rattle.bundle.specs.declared.Bundle.{Bundle}
use Rattle.bundle.specs.declared.Entry.{Entry}
use Rattle.refusal.specs.declared.Refusal.{Refusal}
use Rattle.bundle.specs.declared.Kind.TheVariants.{Null}
use Rattle.bundle.specs.Bundle.{entry_of, step_of, unsound_from}
use Rattle.bundle.proofs.Went.{entries_sound}
use Rattle.bundle.proofs.Entries.{entry_sound, entry_segment}
use Rattle.entry.specs.Table.{EntryTable, as_step, bundle_step, table_of, slot_in, slot_of, no_slot}
use Rattle.entry.specs.Ordinal.{table_bytes, in_table, ordinal_in}
use Rattle.entry.specs.Covered.{Among}
use Rattle.entry.proofs.Resolves.{There, slot_cases}

module _ (table : List ℕ) (segments : ℕ) where
  -- That no entry of a bundle is unsound.
  abbrev Good : Bundle → Type 0
  Good b = unsound_from b.count table segments b.kind b.at ≡ false

  good_step : (p : Place) (bs : List Bundle) (t : Place) (s : Result (Option Bundle) Refusal) → step_of table segments p.at p.used ≡ s → as_step s ≡ Next bs t → All Good bs
  good_step p bs t (Err why) e q = never cc
  good_step p bs t (Ok None) e q = never cc
  good_step p bs t (Ok (Some b)) e q =
      let is : bs ≡ b ∷ [] = cc in
      rw is (entries_sound table segments p.at p.used b e, tt)

  all_good : (bs : List Bundle) → table_of table segments ≡ Sound bs → All Good bs
  unfolding table_of
  all_good bs e = tables.sound_table (bundle_step table segments) EntryTableEnds (λ (p : Place) (bs : List Bundle). All Good bs) (λ p q. tt) more (length table) (record { at = 0; used = 0 }) bs e
    where
      more : (p : Place) (bs : List Bundle) (t : Place) (rest : List Bundle) → bundle_step table segments p ≡ Next bs t → All Good rest → All Good (bs ++ rest)
      more p bs t rest q h = all_append Good bs rest (good_step p bs t (step_of table segments p.at p.used) refl q) h

  among_good : (b : Bundle) (bs : List Bundle) → All Good bs → Among b bs → Good b
  among_good b [] g m = absurd m
  among_good b (first ∷ bs) g (inl e) = rw e g.0
  among_good b (first ∷ bs) g (inr m) = among_good b bs g.1 m

  there_segment : (number : ℕ) (bs : List Bundle) (e : Entry) → All Good bs → There number bs (slot_in bs number) → entry_of (slot_in bs number).kind (drop (slot_in bs number).at table) ≡ Ok e → lacks segments e.segment ≡ false
  there_segment number bs e good t is =
      let b = t.bundle in
      let index : number - 1 - b.used < b.count = omega (arith, t.above, t.within) in
      let entry : entry_of b.kind (drop (slot_of b number).at table) ≡ Ok e = rw t.is at is in
      entry_segment segments b.kind _ e (entry_sound b.count (number - 1 - b.used) segments table b.kind b.at (among_good b bs good t.among) index) entry

  in_sound : (number : ℕ) (bs : List Bundle) (e : Entry) → table_of table segments ≡ Sound bs → in_table table (Sound bs) number ≡ Ok e → lacks segments e.segment ≡ false
  in_sound number bs e sound is = go (slot_cases number bs)
    where
      go : (slot_in bs number ≡ no_slot) ⊎ There number bs (slot_in bs number) → lacks segments e.segment ≡ false
      go (inl none) = let z : entry_of Null (drop 0 table) ≡ Ok e = rw none at is in never cc
      go (inr t) = there_segment number bs e (all_good bs sound) t is

pub ordinal_segment : (image : List ℕ) (h : Header) (number : ℕ) (e : Entry) → ordinal_in image h number ≡ Ok e → lacks h.segments.count e.segment ≡ false
unfolding ordinal_in
ordinal_segment image h number e is = go (table_of (table_bytes image h) h.segments.count) refl is
  where
    go : (t : EntryTable) → table_of (table_bytes image h) h.segments.count ≡ t → in_table (table_bytes image h) t number ≡ Ok e → lacks h.segments.count e.segment ≡ false
    go (Sound bs) q z = in_sound (table_bytes image h) h.segments.count number bs e q z
    go (Unsound why) q z = never cc
