-- The places of a sound table, and the ordinals that lie behind one.
--     none_is_0      no bundle covers the ordinal 0
--     mark_start     the first byte is such a place, with all other ordinals behind it
--     mark_ends      where the table ends, no bundle covers an ordinal behind the place
--     mark_covers    the bundle at the place covers it
--     mark_goes_on   the next place stands behind that bundle
-- Assumes nothing.
use Rattle.std.specs.Prelude.{Result, Ok, Err, Option, Some, None}
use mathlib.Core.Path.{◌≡◌, refl, ap, sym, ◌∙◌}
use mathlib.Core.Logic.{◌⊎◌, inl, inr}
use mathlib.Core.Bool.{cond}
use mathlib.Core.List.{List, [], ◌∷◌}
use Prim.Native.Nat.{ℕ, ◌+◌, ◌*◌, ◌-◌, ◌≤◌, ◌<◌}
use native.Mathlib.Omega.{arith}
use borrow.Author.Tests.{lt-ltb, le-ltb, le-leb, lt-leb}
use Rattle.checks.proofs.Impossible.{never}
use Rattle.bundle.specs.declared.Bundle.{Bundle}
use Rattle.bundle.specs.declared.Head.{Head}
use Rattle.refusal.specs.declared.Refusal.{Refusal}
use Rattle.bundle.specs.Bundle.{kind_of, width_of, step_of, bundle_at}
use Rattle.bundle.specs.Internal.{head_of, Went}
use Rattle.bundle.proofs.Went.{went, head_next, head_end}
use Rattle.tables.specs.Table.{Sound, Unsound, after}
use Rattle.entry.specs.Table.{EntryTable, table_at, table_of, covers, slot_of, no_slot, slot_in}
use Rattle.entry.specs.Internal.{Mark}
use Rattle.entry.proofs.Turns.{unrolled, whole}

pub none_is_0 : (bundles : List Bundle) → slot_in bundles 0 ≡ no_slot
unfolding slot_in
none_is_0 [] = refl
none_is_0 (b ∷ bs) = let low : 0 ≤ b.used = omega arith in rw (le-ltb b.used 0 low) (none_is_0 bs)

module _ (table : List ℕ) (segments : ℕ) (all : List Bundle) where
  pub mark_start : table_of table segments ≡ Sound all → Mark table segments all 0 0
  mark_start e = record { bundles = all; sound = sym (whole table segments) ∙ e; same = λ number some. refl }

  module _ (at used : ℕ) (m : Mark table segments all at used) (h : Head) (here : h ≡ head_of table at) where
    -- A bundle stands at the place.
    record Front : Type 0 where
      b : Bundle
      behind : List Bundle
      is : m.bundles ≡ b ∷ behind
      count : h.count ≡ b.count
      kind : kind_of h.segment ≡ b.kind
      passed : Went table at used b
      sound : table_at table segments b.end (b.used + b.count) ≡ Sound behind

    abbrev Ends : Type 0
    Ends = (h.count ≡ 0) × (m.bundles ≡ [])

    front : Ends ⊎ Front
    front = go (step_of table segments at used) refl
      where
        on : (b : Bundle) (t : EntryTable) → step_of table segments at used ≡ Ok (Some b) → table_at table segments b.end (b.used + b.count) ≡ t → after (b ∷ []) t ≡ Sound m.bundles → Front
        on b (Unsound why) e q z = never cc
        on b (Sound bs) e q z =
            let head = head_next table segments at used b e in
            record { b = b; behind = bs; is = cc; count = rw here head.0; kind = rw here head.1; passed = went table segments at used b e; sound = q }

        go : (s : Result (Option Bundle) Refusal) → step_of table segments at used ≡ s → Ends ⊎ Front
        go (Err why) e = let z : Unsound why ≡ Sound m.bundles = sym (unrolled table segments at used _ e) ∙ m.sound in never cc
        go (Ok None) e =
            let z : Sound [] ≡ Sound m.bundles = sym (unrolled table segments at used _ e) ∙ m.sound in
            inl (rw here (head_end table segments at used e), cc)
        go (Ok (Some b)) e = inr (on b (table_at table segments b.end (b.used + b.count)) e refl (sym (unrolled table segments at used _ e) ∙ m.sound))

    pub mark_ends : h.count ≡ 0 → (number : ℕ) → used < number → slot_in all number ≡ no_slot
    unfolding slot_in
    mark_ends none number above = go front
      where
        go : Ends ⊎ Front → slot_in all number ≡ no_slot
        go (inl e) = sym (m.same number above) ∙ ap (λ (bs : List Bundle). slot_in bs number) e.1
        go (inr f) = absurd (omega (arith, f.count, f.passed.some))

    stands : 0 < h.count → Front
    stands some = go front
      where
        go : Ends ⊎ Front → Front
        go (inl e) = absurd (omega (arith, e.0))
        go (inr f) = f

    module _ (f : Front) where
      first : f.b.at ≡ at + 2
      unfolding bundle_at
      first = ap (λ (b : Bundle). b.at) f.passed.is

      -- A slot behind the place is looked for in that bundle first.
      looked : (number : ℕ) → used < number → slot_in all number ≡ cond (covers f.b number) (slot_of f.b number) (slot_in f.behind number)
      unfolding slot_in
      looked number above = sym (m.same number above) ∙ ap (λ (bs : List Bundle). slot_in bs number) f.is

      in_front : (number : ℕ) → used < number → number ≤ used + h.count → slot_in all number ≡ record { kind = kind_of h.segment; at = at + 2 + width_of (kind_of h.segment) * (number - 1 - used) }
      in_front number above near =
          let low : f.b.used < number = omega (arith, f.passed.base) in
          let within : number ≤ f.b.used + f.b.count = omega (arith, f.passed.base, f.count) in
          let base : f.b.used ≡ used = f.passed.base in
          looked number above ∙ rw (lt-ltb f.b.used number low, le-leb number (f.b.used + f.b.count) within, base, first, f.kind)

      passes : (number : ℕ) → used + h.count < number → slot_in f.behind number ≡ slot_in all number
      passes number beyond =
          let above : used < number = omega arith in
          let low : f.b.used < number = omega (arith, f.passed.base) in
          let behind : f.b.used + f.b.count < number = omega (arith, f.passed.base, f.count) in
          sym (looked number above ∙ rw (lt-ltb f.b.used number low, lt-leb number (f.b.used + f.b.count) behind))

      behind_it : Mark table segments all (at + 2 + width_of (kind_of h.segment) * h.count) (used + h.count)
      behind_it =
          let end : f.b.end ≡ at + 2 + width_of (kind_of h.segment) * h.count = f.passed.size ∙ rw (f.kind, f.count, first) in
          let more : f.b.used + f.b.count ≡ used + h.count = rw (f.passed.base, f.count) in
          record { bundles = f.behind; sound = rw (sym end, sym more) f.sound; same = passes }

    pub mark_covers : (number : ℕ) → used < number → number ≤ used + h.count → slot_in all number ≡ record { kind = kind_of h.segment; at = at + 2 + width_of (kind_of h.segment) * (number - 1 - used) }
    mark_covers number above near = in_front (stands (omega arith)) number above near

    pub mark_goes_on : 0 < h.count → Mark table segments all (at + 2 + width_of (kind_of h.segment) * h.count) (used + h.count)
    mark_goes_on some = behind_it (stands some)
