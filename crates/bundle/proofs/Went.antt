-- The laws of one step of the walk.
--     step_past, step_end, step_bundle   what stands at a place, from what its bytes are
--     went                               what a step that goes on says about its bundle
--     entries_sound                      no entry of that bundle is unsound
--     head_next, head_end                the head of that bundle, and where the table ends
-- Assumes nothing.
use Rattle.std.specs.Prelude.{Result, Ok, Err, Option, Some, None}
use mathlib.Core.Path.{◌≡◌, refl, ap}
use mathlib.Core.Bool.{Bool, true, false}
use mathlib.Core.List.{List}
use Prim.Native.Nat.{ℕ, ◌+◌, ◌≤◌, ◌<◌}
use native.Mathlib.Omega.{arith}
use borrow.Author.Tests.{lt-ltb, le-ltb, eq-eqb, ne_eqb, ltb-false, eqb-true, eqb-false}
use lib.Dec.{ltb, eqb}
use lib.ListN.{length, get_or-eq_default}
use Rattle.checks.proofs.Impossible.{never}
use Rattle.le.specs.Number.{byte_at}
use Rattle.refusal.specs.declared.Refusal.TheVariants.{EntryTableEnds}
use Rattle.checks.specs.Checks.{decide}
use Rattle.checks.specs.Internal.{Passed}
use Rattle.checks.proofs.Checks.{passed, answered}
use Rattle.bundle.specs.declared.Bundle.{Bundle}
use Rattle.refusal.specs.declared.Refusal.{Refusal}
use Rattle.bundle.specs.Bundle.{kind_of, step_of, bundle_at, bundle_checks, unsound_from}
use Rattle.bundle.specs.Internal.{head_of, Went}

is_refusal : Result (Option Bundle) Refusal → Bool
is_refusal (Ok (Some b)) = false
is_refusal (Ok None) = false
is_refusal (Err why) = true

-- A byte past the table counts as 0.
past : (table : List ℕ) (at : ℕ) → length table ≤ at → byte_at table at ≡ 0
past table at h = get_or-eq_default table 0 h

module _ (table : List ℕ) (segments at used : ℕ) where
  pub step_past : 0 < length table → length table ≤ at → step_of table segments at used ≡ Err EntryTableEnds
  unfolding step_of
  step_past some past =
      let full : length table ≡ 0 → ⊥ = λ e. omega arith in
      let missing : length table < at + 1 = omega arith in
      rw (ne_eqb (length table) 0 full, lt-ltb (length table) (at + 1) missing)

  pub step_end : at < length table → byte_at table at ≡ 0 → step_of table segments at used ≡ Ok None
  unfolding step_of
  step_end inside none =
      let full : length table ≡ 0 → ⊥ = λ e. omega arith in
      let there : at + 1 ≤ length table = omega arith in
      rw (ne_eqb (length table) 0 full, le-ltb (length table) (at + 1) there, eq-eqb (byte_at table at) 0 none)

  pub step_bundle : at < length table → (byte_at table at ≡ 0 → ⊥) → step_of table segments at used ≡ decide Err (bundle_checks table segments (bundle_at table at used)) (Ok (Some (bundle_at table at used)))
  unfolding step_of
  step_bundle inside some =
      let full : length table ≡ 0 → ⊥ = λ e. omega arith in
      let there : at + 1 ≤ length table = omega arith in
      rw (ne_eqb (length table) 0 full, le-ltb (length table) (at + 1) there, ne_eqb (byte_at table at) 0 some)

  -- A step that goes on does so over the bundle that stands there, all of whose checks passed.
  checked : (b : Bundle) → step_of table segments at used ≡ Ok (Some b) → (b ≡ bundle_at table at used) × (byte_at table at ≡ 0 → ⊥) × Passed (bundle_checks table segments (bundle_at table at used))
  unfolding step_of is_refusal
  checked b e = go (eqb (length table) 0) (ltb (length table) (at + 1)) (eqb (byte_at table at) 0) refl refl refl
    where
      go : (empty missing none : Bool) → eqb (length table) 0 ≡ empty → ltb (length table) (at + 1) ≡ missing → eqb (byte_at table at) 0 ≡ none → (b ≡ bundle_at table at used) × (byte_at table at ≡ 0 → ⊥) × Passed (bundle_checks table segments (bundle_at table at used))
      go true missing none p q r = let z : Ok None ≡ Ok (Some b) = rw p at e in never cc
      go false true none p q r = let z : Err EntryTableEnds ≡ Ok (Some b) = rw (p, q) at e in never cc
      go false false true p q r = let z : Ok None ≡ Ok (Some b) = rw (p, q, r) at e in never cc
      go false false false p q r =
          let here = bundle_at table at used in
          let found : decide Err (bundle_checks table segments here) (Ok (Some here)) ≡ Ok (Some b) = rw (p, q, r) at e in
          let answer = answered Err is_refusal (λ why. refl) (bundle_checks table segments here) (Ok (Some here)) (ap is_refusal found) in
          let all = passed Err is_refusal (λ why. refl) (bundle_checks table segments here) (Ok (Some here)) (ap is_refusal found) in
          let is : b ≡ here = cc in
          (is, eqb-false _ 0 r, all)

  pub went : (b : Bundle) → step_of table segments at used ≡ Ok (Some b) → Went table at used b
  unfolding bundle_checks bundle_at
  went b e =
      let c = checked b e in
      let here = bundle_at table at used in
      let some : byte_at table at ≡ 0 → ⊥ = c.1 in
      let few : used + byte_at table at ≤ 65535 = ltb-false _ _ c.2.1.0 in
      let room : at + 2 ≤ here.end = omega arith in
      let end : here.end ≤ length table = ltb-false _ _ c.2.1.1.0 in
      rw c.0 (record { is = refl; base = refl; some = omega arith; few = few; on = omega arith; room = room; size = refl; end = end })

  -- No entry of it is unsound.
  pub entries_sound : (b : Bundle) → step_of table segments at used ≡ Ok (Some b) → unsound_from b.count table segments b.kind b.at ≡ false
  unfolding bundle_checks
  entries_sound b e = let c = checked b e in rw c.0 c.2.1.1.1.0

  pub head_next : (b : Bundle) → step_of table segments at used ≡ Ok (Some b) → ((head_of table at).count ≡ b.count) × (kind_of (head_of table at).segment ≡ b.kind)
  unfolding head_of bundle_at
  head_next b e = rw (went b e).is (refl, refl)

  pub head_end : step_of table segments at used ≡ Ok None → (head_of table at).count ≡ 0
  unfolding head_of step_of is_refusal
  head_end e = go (eqb (length table) 0) (ltb (length table) (at + 1)) (eqb (byte_at table at) 0) refl refl refl
    where
      go : (empty missing none : Bool) → eqb (length table) 0 ≡ empty → ltb (length table) (at + 1) ≡ missing → eqb (byte_at table at) 0 ≡ none → byte_at table at ≡ 0
      go empty missing true p q r = eqb-true (byte_at table at) 0 r
      go true missing false p q r =
          let none = eqb-true (length table) 0 p in
          past table at (omega arith)
      go false true false p q r = let z : Err EntryTableEnds ≡ Ok None = rw (p, q) at e in never cc
      go false false false p q r =
          let here = bundle_at table at used in
          let found : decide Err (bundle_checks table segments here) (Ok (Some here)) ≡ Ok None = rw (p, q, r) at e in
          let answer = answered Err is_refusal (λ why. refl) (bundle_checks table segments here) (Ok (Some here)) (ap is_refusal found) in
          never cc
