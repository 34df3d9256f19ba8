-- The law of an accepted header: everything lies where `Inside` says.
-- Assumes nothing.
use Rattle.std.specs.Prelude.{Result, Ok, Err}
use mathlib.Core.Path.{◌≡◌, refl, ap}
use mathlib.Core.Bool.{Bool, true, false}
use mathlib.Core.List.{List}
use Prim.Native.Nat.{ℕ, ◌+◌, ◌≤◌, ◌<◌}
use native.Mathlib.Omega.{arith}
use borrow.Author.Tests.{ltb-false, ne_eqb}
use lib.ListN.{length}
use lib.Pow.{pow_mono}
use Rattle.checks.specs.Internal.{Passed}
use Rattle.checks.proofs.Checks.{passed, answered}
use Rattle.header.specs.Header.{header_of, header_checks, tables_of, leaves, ne_place, field_of}
use Rattle.header.specs.Inside.{Inside}
use Rattle.header.specs.declared.Header.{Header}
use Rattle.refusal.specs.declared.Refusal.{Refusal}

is_refusal : Result Header Refusal → Bool
is_refusal (Ok h) = false
is_refusal (Err why) = true

stays : (len at size : ℕ) → leaves len at size ≡ false → 0 < size → at + size ≤ len
unfolding leaves
stays len at size e h =
    let n : size ≡ 0 → ⊥ = λ z. omega arith in
    ltb-false len (at + size) (rw (ne_eqb size 0 n) at e)

module _ (image : List ℕ) where
  tables : Header
  tables = tables_of image (ne_place image)

  all_passed : is_refusal (header_of image) ≡ false → Passed (header_checks image)
  unfolding header_of is_refusal
  all_passed e = passed Err is_refusal (λ why. refl) (header_checks image) _ e

  is_tables : is_refusal (header_of image) ≡ false → header_of image ≡ Ok tables
  unfolding header_of is_refusal tables
  is_tables e = answered Err is_refusal (λ why. refl) (header_checks image) _ e

  -- The checks by their places in the list, from 0.
  inside : Passed (header_checks image) → Inside image tables
  unfolding header_checks tables tables_of
  inside p =
      let len = length image in
      let t = p.1.1.1.1.1.1.1 in
      record {
        size = ltb-false 16777216 len p.1.0;
        ne_low = ltb-false (ne_place image) 64 p.1.1.1.0;
        ne_end = ltb-false len (ne_place image + 64) p.1.1.1.1.0;
        unit = pow_mono (ltb-false 15 (field_of image (ne_place image) 0x32) p.1.1.1.1.1.1.0);
        segments = λ h. stays len _ _ t.0 (omega arith);
        modules = λ h. stays len _ _ t.1.0 (omega arith);
        entries = λ h. stays len _ _ t.1.1.0 h;
        nonresident = λ h. stays len _ _ t.1.1.1.0 h;
      }

pub accepted : (image : List ℕ) (h : Header) → header_of image ≡ Ok h → Inside image h
unfolding is_refusal
accepted image h e =
    let good : is_refusal (header_of image) ≡ false = ap is_refusal e in
    let same : h ≡ tables image = let a = is_tables image good in cc in
    rw same (inside image (all_passed image good))
