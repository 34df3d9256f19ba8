-- A record's type and target decide alone whether it is refused, where there are as many selectors as segments.
--     refused_as      a record that is refused is of no known type, or else its target doesn't resolve
--     resolved        a record of a known type whose target resolves is not refused
--     known           a record that is not refused is of a known type, and its target resolves
--     refused_number  22 or 23
-- Assumes nothing.
use Rattle.std.specs.Prelude.{Result, Ok, Err, Option, Some, None}
use mathlib.Core.Path.{◌≡◌, refl}
use mathlib.Core.Logic.{inl, inr}
use mathlib.Core.Bool.{Bool, true, false}
use mathlib.Core.List.{List}
use Prim.Native.Nat.{ℕ, ◌≤◌}
use native.Mathlib.Omega.{arith}
use borrow.Author.Tests.{le-ltb, eqb-true}
use lib.Dec.{eqb}
use lib.ListN.{length}
use Rattle.checks.proofs.Impossible.{never}
use Rattle.checks.specs.Onward.{◌>>=◌}
use Rattle.refusal.specs.declared.Refusal.{Refusal}
use Rattle.refusal.specs.declared.Refusal.TheVariants.{FixupType}
use Rattle.header.specs.Header.{lacks}
use Rattle.header.specs.declared.Header.{Header}
use Rattle.header.proofs.Numbered.{has}
use Rattle.site.specs.declared.Kind.{Kind}
use Rattle.site.specs.declared.Kind.TheVariants.{LowByte, Selector, Far, Offset}
use Rattle.site.specs.declared.Fixup.{Fixup}
use Rattle.site.specs.Sound.{Resolved}
use Rattle.fixup.specs.declared.Record.{Record}
use Rattle.fixup.specs.declared.Target.{Target}
use Rattle.fixup.specs.declared.Target.TheVariants.{Segment}
use Rattle.fixup.specs.Record.{typed_of}
use Rattle.fixup.specs.Target.{target_of}
use Rattle.refusal.specs.Number.{Between}
use Rattle.fixup.specs.Action.{to_target, of_type, action_of, KnownType, RefusedAs, type_unknown, target_unresolved}
use Rattle.fixup.specs.Resolves.{Resolves}
use Rattle.fixup.proofs.Targets.{TargetReason, target_cases, resolves_not, resolves}

-- A type is found exactly where it is one of the four.
type_found : (r : Record) → KnownType r → typed_of r.kind ≡ None → ⊥
unfolding typed_of
type_found r (inl k) e = let z : Some LowByte ≡ None = rw k at e in never cc
type_found r (inr (inl k)) e = let z : Some Selector ≡ None = rw k at e in never cc
type_found r (inr (inr (inl k))) e = let z : Some Far ≡ None = rw k at e in never cc
type_found r (inr (inr (inr k))) e = let z : Some Offset ≡ None = rw k at e in never cc

found_type : (r : Record) → (typed_of r.kind ≡ None → ⊥) → KnownType r
unfolding typed_of
found_type r found = go (eqb r.kind 0) (eqb r.kind 2) (eqb r.kind 3) (eqb r.kind 5) refl refl refl refl
  where
    go : (low selector far offset : Bool) → eqb r.kind 0 ≡ low → eqb r.kind 2 ≡ selector → eqb r.kind 3 ≡ far → eqb r.kind 5 ≡ offset → KnownType r
    go true selector far offset a b c d = inl (eqb-true _ _ a)
    go false true far offset a b c d = inr (inl (eqb-true _ _ b))
    go false false true offset a b c d = inr (inr (inl (eqb-true _ _ c)))
    go false false false true a b c d = inr (inr (inr (eqb-true _ _ d)))
    go false false false false a b c d = absurd (found (rw (a, b, c, d)))

same_reason : {A : Type 0} {why why' : Refusal} → ◌≡◌ {A = Result A Refusal} (Err why) (Err why') → why ≡ why'
same_reason e = cc

module _ (image : List ℕ) (h : Header) (selectors : List ℕ) (answer : ℕ) (r : Record) where
  pub refused_as : h.segments.count ≤ length selectors → (why : Refusal) → action_of image h selectors answer r ≡ Err why → RefusedAs image h r why
  unfolding action_of
  refused_as enough why e = go (typed_of r.kind) refl e
    where
      -- What is asked of a target, for each kind of it.
      Told : Kind → Result Target Refusal → Type 0
      Told kind t = ((other : Refusal) → t ≡ Err other → Resolves image h r → ⊥) → (t >>= to_target selectors answer r kind) ≡ Err why → RefusedAs image h r why

      in_segment : (kind : Kind) (segment offset : ℕ) → lacks h.segments.count segment ≡ false → Told kind (Ok (Segment segment offset))
      in_segment kind segment offset lacked k z =
          let there = has h.segments.count segment lacked in
          let listed : segment ≤ length selectors = omega (arith, there.1) in
          let w = rw (le-ltb _ _ listed) at z in
          never cc

      known_type : (kind : Kind) → typed_of r.kind ≡ Some kind → KnownType r
      known_type kind p = found_type r (λ q. never cc)

      go : (typed : Option Kind) → typed_of r.kind ≡ typed → of_type selectors answer r typed (target_of image h r) ≡ Err why → RefusedAs image h r why
      go None p z =
          let told : ◌≡◌ {A = Result (Option Fixup) Refusal} (Err FixupType) (Err why) = z in
          let same : FixupType ≡ why = same_reason told in
          rw (← same) (type_unknown (λ k. type_found r k p))
      go (Some kind) p z = target_cases image h r (Told kind) (in_segment kind) (λ k z. never cc) (λ k z. never cc) because (λ other k t. resolves_not image h r other t.0 t.1 k) z
        where
          because : (other : Refusal) → TargetReason other → Told kind (Err other)
          because other reason k z =
              let same : other ≡ why = same_reason z in
              rw (← same) (target_unresolved (known_type kind p) (k other refl) reason)

  pub resolved : h.segments.count ≤ length selectors → KnownType r → Resolves image h r → Resolved (action_of image h selectors answer r)
  resolved enough known target why e = go (refused_as enough why e)
    where
      go : {reason : Refusal} → RefusedAs image h r reason → ⊥
      go (type_unknown n) = n known
      go (target_unresolved k n is) = n target

  pub known : Resolved (action_of image h selectors answer r) → KnownType r × Resolves image h r
  unfolding action_of
  known ok = (found_type r go_typed, resolves image h r (λ why e. go (typed_of r.kind) why refl e))
    where
      go_typed : typed_of r.kind ≡ None → ⊥
      go_typed e = ok FixupType (rw e)

      go : (typed : Option Kind) (why : Refusal) → typed_of r.kind ≡ typed → target_of image h r ≡ Err why → ⊥
      go None why p q = go_typed p
      go (Some kind) why p q = ok why (rw (p, q))

-- A record is refused by 22 or 23.
pub refused_number : {image : List ℕ} {h : Header} {r : Record} {why : Refusal} → RefusedAs image h r why → Between 22 23 why
refused_number (type_unknown n) = omega arith
refused_number (target_unresolved k n is) = omega arith
