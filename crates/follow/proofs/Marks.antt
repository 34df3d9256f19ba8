-- A span has a marked byte exactly if it meets an earlier one, where the bytes of the earlier ones are marked.
-- Assumes nothing.
use mathlib.Core.Path.{◌≡◌, refl, sym}
use mathlib.Core.Bool.{Bool, true, false, not, ◌||◌}
use mathlib.Core.List.{List}
use Prim.Native.Nat.{ℕ, zero, suc, ◌+◌, ◌-◌, ◌<◌}
use native.Mathlib.Omega.{arith}
use borrow.Author.Tests.{eq-eqb, eqb-true}
use lib.Dec.{eqb}
use lib.ListN.{length}
use Rattle.le.specs.Number.{byte_at}
use Rattle.checks.proofs.Impossible.{never}
use Rattle.lists.proofs.All.{all_map}
use Rattle.site.specs.Site.{Site, width_of, InSpan, Apart}
use Rattle.site.specs.Prepared.{marked}
use Rattle.site.specs.Exact.{Marked}
use Rattle.site.specs.Walk.{meets_one}
use Rattle.site.proofs.Meets.{Good, one_apart, apart_one}
use Rattle.site.proofs.Bytes.{marked_exactly}
use Rattle.claim.specs.Internal.{taken}

-- No byte is marked, said of each.
none_taken : (width : ℕ) (marks : List ℕ) (at : ℕ) → ((place : ℕ) → at < suc place → place < at + width → byte_at marks place ≡ 0) → taken width marks at ≡ false
unfolding taken
none_taken zero marks at h = refl
none_taken (suc width) marks at h = rw (eq-eqb _ _ (h at (omega arith) (omega arith))) (none_taken width marks (suc at) (λ place low high. h place (omega arith) (omega arith)))

-- The other way, byte by byte.
taken_first : (width : ℕ) (marks : List ℕ) (at : ℕ) → taken (suc width) marks at ≡ false → (byte_at marks at ≡ 0) × (taken width marks (suc at) ≡ false)
unfolding taken
taken_first width marks at e = go (eqb (byte_at marks at) 0) refl e
  where
    go : (b : Bool) → eqb (byte_at marks at) 0 ≡ b → (not b || taken width marks (suc at)) ≡ false → (byte_at marks at ≡ 0) × (taken width marks (suc at) ≡ false)
    go true p q = (eqb-true _ _ p, q)
    go false p q = never cc

taken_none : (width : ℕ) (marks : List ℕ) (at : ℕ) → taken width marks at ≡ false → (i : ℕ) → i < width → byte_at marks (at + i) ≡ 0
taken_none zero marks at e i h = absurd (omega arith)
taken_none (suc width) marks at e zero h = let here : at + 0 ≡ at = omega arith in rw here (taken_first width marks at e).0
taken_none (suc width) marks at e (suc i) h = let on : at + suc i ≡ suc at + i = omega arith in rw on (taken_none width marks (suc at) (taken_first width marks at e).1 i (omega arith))

-- Two tests of which each fails where the other does.
same_test : (a b : Bool) → (a ≡ false → b ≡ false) → (b ≡ false → a ≡ false) → a ≡ b
same_test true true f g = refl
same_test true false f g = g refl
same_test false true f g = sym (f refl)
same_test false false f g = refl

module _ (stored : List ℕ) (earlier : List Site) (good : Good stored earlier) where
  exactly : Marked (length stored) earlier (marked (length stored) earlier)
  exactly = marked_exactly (length stored) earlier good.0 good.1

  abbrev marks : List ℕ
  marks = marked (length stored) earlier

  pub marks_length : length marks ≡ length stored
  marks_length = exactly.size_kept

  pub taken_meets : (s : Site) → taken (width_of s.fixup.kind s.fixup.additive) marks s.at ≡ meets_one s earlier
  taken_meets s = same_test (taken (width_of s.fixup.kind s.fixup.additive) marks s.at) (meets_one s earlier) free clear
    where
      -- A place in an earlier span is marked.
      apart : taken (width_of s.fixup.kind s.fixup.additive) marks s.at ≡ false → (t : Site) → ((place : ℕ) → InSpan place t → byte_at marks place ≡ 1) → Apart t s
      apart e t one place own its =
          let on : s.at + (place - s.at) ≡ place = omega (arith, its.0) in
          let zero : byte_at marks (s.at + (place - s.at)) ≡ 0 = taken_none (width_of s.fixup.kind s.fixup.additive) marks s.at e (place - s.at) (omega (arith, its.0, its.1)) in
          omega (arith, rw on at zero, one place own)

      free : taken (width_of s.fixup.kind s.fixup.additive) marks s.at ≡ false → meets_one s earlier ≡ false
      free e = apart_one s earlier (all_map (λ t. (place : ℕ) → InSpan place t → byte_at marks place ≡ 1) (λ t. Apart t s) (apart e) earlier exactly.one)

      clear : meets_one s earlier ≡ false → taken (width_of s.fixup.kind s.fixup.additive) marks s.at ≡ false
      clear e = none_taken (width_of s.fixup.kind s.fixup.additive) marks s.at (λ place low high. exactly.zero_else place (all_map (λ t. Apart t s) (λ t. InSpan place t → ⊥) (λ t a own. a place own (omega arith, omega arith)) earlier (one_apart s earlier e)))
