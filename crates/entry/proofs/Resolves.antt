-- The claim of an ordinal: it resolves exactly when the table is sound and a bundle that isn't null covers it, and the
-- answer is that bundle's entry.
-- Assumes nothing.
use Rattle.std.specs.Prelude.{Ok, Err}
use mathlib.Core.Path.{◌≡◌, refl, ap, sym, ◌∙◌}
use mathlib.Core.Logic.{◌⊎◌, inl, inr, ◌↔◌}
use mathlib.Core.Bool.{Bool, true, false, cond}
use mathlib.Core.List.{List, [], ◌∷◌}
use Prim.Native.Nat.{ℕ, ◌+◌, ◌≤◌, ◌<◌}
use native.Mathlib.Omega.{arith}
use borrow.Author.Tests.{lt-ltb, le-leb, lt-leb}
use lib.ListN.{drop}
use Rattle.checks.proofs.Impossible.{never}
use Rattle.refusal.specs.declared.Refusal.{Refusal}
use Rattle.refusal.specs.declared.Refusal.TheVariants.{NoSuchOrdinal}
use Rattle.header.specs.Header.{header_of}
use Rattle.header.specs.declared.Header.{Header}
use Rattle.bundle.specs.declared.Kind.{Kind}
use Rattle.bundle.specs.declared.Kind.TheVariants.{Null, Movable, Fixed}
use Rattle.bundle.specs.declared.Bundle.{Bundle}
use Rattle.entry.specs.declared.Slot.{Slot}
use Rattle.bundle.specs.declared.Entry.{Entry}
use Rattle.bundle.specs.Bundle.{entry_of}
use Rattle.tables.specs.Table.{Sound, Unsound}
use Rattle.entry.specs.Table.{EntryTable, table_of, covers, slot_of, slot_in, no_slot}
use Rattle.entry.specs.Ordinal.{table_bytes, in_table, ordinal_in, ordinal_of}
use Rattle.entry.specs.Covered.{Among, Covered, entry_of_bundle, Resolves, IsCovered}
use Rattle.entry.proofs.Covers.{covered}
use Rattle.entry.proofs.Follow.{Follow, sound_follow, later}

covers_yes : (b : Bundle) (number : ℕ) → b.used < number → number ≤ b.used + b.count → covers b number ≡ true
covers_yes b number h k = rw (lt-ltb _ _ h, le-leb _ _ k)

covers_no : (b : Bundle) (number : ℕ) → b.used + b.count < number → covers b number ≡ false
covers_no b number h =
    let above : b.used < number = omega arith in
    rw (lt-ltb _ _ above, lt-leb _ _ h)

-- In a list of bundles that follow each other, the slot is the one in the bundle that covers the ordinal.
slot_there : (used number : ℕ) (b : Bundle) (bs : List Bundle) → Follow used bs → Among b bs → b.used < number → number ≤ b.used + b.count → slot_in bs number ≡ slot_of b number
unfolding slot_in
slot_there used number b [] f m h k = absurd m
slot_there used number b (first ∷ bs) f (inl e) h k = rw (sym e) (rw (covers_yes b number h k))
slot_there used number b (first ∷ bs) f (inr m) h k =
    let behind = later (used + first.count) b bs f.1 m in
    let past : first.used + first.count < number = omega (arith, behind, f.0) in
    rw (covers_no first number past) (slot_there (used + first.count) number b bs f.1 m h k)

-- What an ordinal stands for in a table that has a bundle that covers it.
pub entry_in : (table : List ℕ) (bs : List Bundle) (b : Bundle) (number : ℕ) → Follow 0 bs → Among b bs → b.used < number → number ≤ b.used + b.count → in_table table (Sound bs) number ≡ entry_of b.kind (drop (slot_of b number).at table)
entry_in table bs b number f m h k = rw (slot_there 0 number b bs f m h k)

-- A bundle of the list covers the ordinal, and the slot is the one in it.
pub record There (number : ℕ) (bs : List Bundle) (slot : Slot) : Type 0 where
  pub bundle : Bundle
  pub among : Among bundle bs
  pub above : bundle.used < number
  pub within : number ≤ bundle.used + bundle.count
  pub is : slot ≡ slot_of bundle number

pub slot_cases : (number : ℕ) (bs : List Bundle) → (slot_in bs number ≡ no_slot) ⊎ There number bs (slot_in bs number)
unfolding slot_in
slot_cases number [] = inl refl
slot_cases number (b ∷ bs) = go (covers b number) refl (slot_cases number bs)
  where
    go : (t : Bool) → covers b number ≡ t → (slot_in bs number ≡ no_slot) ⊎ There number bs (slot_in bs number) → (cond (covers b number) (slot_of b number) (slot_in bs number) ≡ no_slot) ⊎ There number (b ∷ bs) (cond (covers b number) (slot_of b number) (slot_in bs number))
    go true e rest =
        let c = covered b number e in
        inr (record { bundle = b; among = inl refl; above = c.0; within = c.1; is = rw e })
    go false e (inl q) = inl (rw e q)
    go false e (inr w) = inr (record { bundle = w.bundle; among = inr w.among; above = w.above; within = w.within; is = rw e w.is })

module _ (image : List ℕ) (h : Header) (number : ℕ) (good : header_of image ≡ Ok h) where
  answer_is : (bs : List Bundle) → table_of (table_bytes image h) h.segments.count ≡ Sound bs → ordinal_of image number ≡ entry_of (slot_in bs number).kind (drop (slot_in bs number).at (table_bytes image h))
  unfolding ordinal_of ordinal_in
  answer_is bs sound = rw (good, sound)

  refused_is : (why : Refusal) → table_of (table_bytes image h) h.segments.count ≡ Unsound why → ordinal_of image number ≡ Err why
  unfolding ordinal_of ordinal_in
  refused_is why unsound = rw (good, unsound)

  -- The answer to an ordinal that a bundle covers is its entry in that bundle.
  pub its_entry : (b : Bundle) → Covered image h number b → ordinal_of image number ≡ entry_of_bundle image h number b
  its_entry b c =
      let follow = sound_follow (table_bytes image h) h.segments.count c.bundles c.sound in
      answer_is c.bundles c.sound ∙ entry_in (table_bytes image h) c.bundles b number follow c.among c.covers.0 c.covers.1

  entry_there : (kind : Kind) (e : List ℕ) → (kind ≡ Null → ⊥) → (r : Entry) × (entry_of kind e ≡ Ok r)
  entry_there Null e n = absurd (n refl)
  entry_there Movable e n = (_, refl)
  entry_there (Fixed segment) e n = (_, refl)

  covering : (bs : List Bundle) (e : Entry) → table_of (table_bytes image h) h.segments.count ≡ Sound bs → ordinal_of image number ≡ Ok e → IsCovered image h number
  covering bs e sound accepted = go (slot_cases number bs)
    where
      found : entry_of (slot_in bs number).kind (drop (slot_in bs number).at (table_bytes image h)) ≡ Ok e
      found = sym (answer_is bs sound) ∙ accepted

      null : (slot_in bs number).kind ≡ Null → ⊥
      null q = let z : Err NoSuchOrdinal ≡ Ok e = rw q at found in never cc

      go : (slot_in bs number ≡ no_slot) ⊎ There number bs (slot_in bs number) → IsCovered image h number
      go (inl none) = absurd (null (ap (λ (s : Slot). s.kind) none))
      go (inr t) =
          let some : t.bundle.kind ≡ Null → ⊥ = λ q. null (ap (λ (s : Slot). s.kind) t.is ∙ q) in
          (t.bundle, record { bundles = bs; sound = sound; among = t.among; not_null = some; covers = (t.above, t.within) })

  -- An ordinal resolves exactly when the table is sound and a bundle that isn't null covers it.
  pub exactly : Resolves image number ↔ IsCovered image h number
  exactly = (λ r. go r.0 r.1 (table_of (table_bytes image h) h.segments.count) refl, back)
    where
      go : (e : Entry) → ordinal_of image number ≡ Ok e → (t : EntryTable) → table_of (table_bytes image h) h.segments.count ≡ t → IsCovered image h number
      go e accepted (Sound bs) q = covering bs e q accepted
      go e accepted (Unsound why) q = let z : Err why ≡ Ok e = sym (refused_is why q) ∙ accepted in never cc

      back : IsCovered image h number → Resolves image number
      back c =
          let b = c.0 in
          let entry = entry_there b.kind (drop (slot_of b number).at (table_bytes image h)) c.1.not_null in
          (entry.0, its_entry b c.1 ∙ entry.1)
