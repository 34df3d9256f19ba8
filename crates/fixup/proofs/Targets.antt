-- The laws of a record's target.
--     told           a target resolves in one of the five ways, or there is a reason why not
--     resolves       so it resolves where the definition by cases gives no reason
--     resolved_is    to what that definition says, and resolves_not: then there is no reason
--     target_cases   what holds of every kind of target holds of a record's; a segment is one that the module has
-- Assumes nothing.
use Rattle.std.specs.Prelude.{Result, Ok, Err, Option, Some, None}
use mathlib.Core.Path.{◌≡◌, refl}
use mathlib.Core.Bool.{Bool, true, false, cond}
use mathlib.Core.List.{List, [], ◌∷◌}
use Prim.Native.Nat.{ℕ, ◌%◌}
use native.Mathlib.Omega.{arith}
use borrow.Author.Tests.{eqb-true, eqb-false, ne_eqb}
use lib.Dec.{eqb}
use Rattle.checks.proofs.Impossible.{never}
use Rattle.checks.specs.Checks.{◌⇒◌, decide}
use Rattle.refusal.specs.Number.{number_of}
use Rattle.refusal.specs.declared.Refusal.{Refusal}
use Rattle.refusal.specs.declared.Refusal.TheVariants.{TargetSegment, TargetModule, TargetOrdinal, TargetString}
use Rattle.header.specs.Header.{lacks}
use Rattle.header.specs.declared.Header.{Header}
use Rattle.header.proofs.Numbered.{has, has_such}
use Rattle.bundle.specs.declared.Entry.{Entry}
use Rattle.imports.specs.declared.Text.{Text}
use Rattle.entry.specs.Ordinal.{ordinal_in}
use Rattle.entry.proofs.Segments.{ordinal_segment}
use Rattle.imports.specs.Module.{string_at}
use Rattle.fixup.specs.declared.Record.{Record}
use Rattle.fixup.specs.declared.Target.{Target}
use Rattle.fixup.specs.declared.Target.TheVariants.{Segment, Import, Os}
use Rattle.fixup.specs.Target.{entry_target, internal_target, import_target, name_target, target_of}
use Rattle.fixup.specs.Resolves.{ResolvesTo, by_segment, by_ordinal, import_by_ordinal, import_by_name, as_os, InCount, Resolves}

-- A reason for which a target doesn't resolve: 23.
abbrev pub TargetReason : Refusal → Type 0
TargetReason why = number_of why ≡ 23

-- A target resolves in one of the five ways, or there is a reason why not.
data Told (image : List ℕ) (h : Header) (r : Record) : Result Target Refusal → Type 0 where
  to : {t : Target} → ResolvesTo image h r t → Told image h r (Ok t)
  lacked : (why : Refusal) → TargetReason why → Told image h r (Err why)

module _ (image : List ℕ) (h : Header) (r : Record) where
  entry_told : r.flags % 4 ≡ 0 → r.first % 256 ≡ 255 → (a : Result Entry Refusal) → ordinal_in image h r.last ≡ a → Told image h r (entry_target a)
  entry_told how is (Ok e) q = to (by_ordinal how is e q)
  entry_told how is (Err why) q = lacked TargetOrdinal refl

  internal_told : r.flags % 4 ≡ 0 → Told image h r (internal_target image h r)
  unfolding internal_target
  internal_told how = go (eqb (r.first % 256) 255) (lacks h.segments.count (r.first % 256)) refl refl
    where
      go : (ordinal lacking : Bool) → eqb (r.first % 256) 255 ≡ ordinal → lacks h.segments.count (r.first % 256) ≡ lacking → Told image h r (cond ordinal (entry_target (ordinal_in image h r.last)) (decide Err ((lacking ⇒ TargetSegment) ∷ []) (Ok (Segment (r.first % 256) r.last))))
      go true lacking p q = entry_told how (eqb-true _ _ p) (ordinal_in image h r.last) refl
      go false true p q = lacked TargetSegment refl
      go false false p q = to (by_segment how (eqb-false _ _ p) (has _ _ q))

  import_told : (found : Result Target Refusal) → (InCount h.modules.count r.first → Told image h r found) → Told image h r (import_target h r found)
  import_told found on = go (lacks h.modules.count r.first) refl
    where
      go : (lacking : Bool) → lacks h.modules.count r.first ≡ lacking → Told image h r (decide Err ((lacking ⇒ TargetModule) ∷ []) found)
      go true q = lacked TargetModule refl
      go false q = on (has _ _ q)

  name_told : r.flags % 4 ≡ 2 → InCount h.modules.count r.first → (s : Option Text) → string_at image h r.last ≡ s → Told image h r (name_target s)
  name_told how in_count (Some text) q = to (import_by_name how in_count text q)
  name_told how in_count None q = let why : Told image h r (Err TargetString) = lacked TargetString refl in why

  told : Told image h r (target_of image h r)
  unfolding target_of
  told = go (eqb (r.flags % 4) 0) (eqb (r.flags % 4) 1) (eqb (r.flags % 4) 2) refl refl refl
    where
      go : (zero one two : Bool) → eqb (r.flags % 4) 0 ≡ zero → eqb (r.flags % 4) 1 ≡ one → eqb (r.flags % 4) 2 ≡ two → Told image h r (cond zero (internal_target image h r) (cond one (import_target h r (Ok Import)) (cond two (import_target h r (name_target (string_at image h r.last))) (Ok Os))))
      go true one two a b c = internal_told (eqb-true _ _ a)
      go false true two a b c = import_told (Ok Import) (λ in_count. to (import_by_ordinal (eqb-true _ _ b) in_count))
      go false false true a b c = import_told (name_target (string_at image h r.last)) (λ in_count. name_told (eqb-true _ _ c) in_count (string_at image h r.last) refl)
      go false false false a b c =
          let not_zero : r.flags % 4 ≡ 0 → ⊥ = eqb-false _ _ a in
          let not-one : r.flags % 4 ≡ 1 → ⊥ = eqb-false _ _ b in
          let not-two : r.flags % 4 ≡ 2 → ⊥ = eqb-false _ _ c in
          to (as_os (omega arith))

  pub resolves : ((why : Refusal) → target_of image h r ≡ Err why → ⊥) → Resolves image h r
  resolves ok = go (target_of image h r) told ok
    where
      go : (t : Result Target Refusal) → Told image h r t → ((why : Refusal) → t ≡ Err why → ⊥) → Resolves image h r
      go (Ok t) (to w) k = (t, w)
      go (Err why) (lacked _ reason) k = absurd (k why refl)

  -- What a target resolves to is what the definition by cases says.
  resolved_is : {t : Target} → ResolvesTo image h r t → target_of image h r ≡ Ok t
  unfolding target_of internal_target
  resolved_is (by_segment how other in_count) = rw (how, ne_eqb _ _ other, has_such _ _ in_count.0 in_count.1)
  resolved_is (by_ordinal how is e found) = rw (how, is, found)
  resolved_is (import_by_ordinal how in_count) = rw (how, has_such _ _ in_count.0 in_count.1)
  resolved_is (import_by_name how in_count text found) = rw (how, has_such _ _ in_count.0 in_count.1, found)
  resolved_is (as_os how) = rw how

  pub resolves_not : (why : Refusal) (t : Target) → ResolvesTo image h r t → target_of image h r ≡ Err why → ⊥
  resolves_not why t w e = let is = resolved_is w in never cc

  -- What holds of every kind of target holds of a record's.
  module _ (P : Result Target Refusal → Type 0) (in_segment : (segment offset : ℕ) → lacks h.segments.count segment ≡ false → P (Ok (Segment segment offset))) (import : P (Ok Import)) (os : P (Ok Os)) (because : (why : Refusal) → TargetReason why → P (Err why)) where
    of_told : {t : Result Target Refusal} → Told image h r t → P t
    of_told (to (by_segment how other in_count)) = in_segment (r.first % 256) r.last (has_such _ _ in_count.0 in_count.1)
    of_told (to (by_ordinal how is e found)) = in_segment e.segment e.offset (ordinal_segment image h r.last e found)
    of_told (to (import_by_ordinal how in_count)) = import
    of_told (to (import_by_name how in_count text found)) = import
    of_told (to (as_os how)) = os
    of_told (lacked why reason) = because why reason

    pub target_cases : P (target_of image h r)
    target_cases = of_told told
