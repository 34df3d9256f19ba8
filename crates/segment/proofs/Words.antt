-- Laws of a segment record's words.
-- Assumes nothing.
use mathlib.Core.Path.{◌≡◌, refl}
use mathlib.Core.Bool.{Bool, true, false}
use mathlib.Core.List.{List}
use Prim.Native.Nat.{ℕ, ◌/◌, ◌%◌, ◌≤◌, ◌<◌}
use native.Mathlib.Omega.{arith}
use borrow.Author.Tests.{eq-eqb, ne_eqb, eqb-false}
use lib.Dec.{eqb}
use Rattle.header.specs.declared.Header.{Header}
use Rattle.segment.specs.Segment.{segment_at, sector_of, full_of, stored_of, records_follow}

-- Flag 0100h, tested against 0.
pub follow_no : (flags : ℕ) → flags / 0x100 % 2 ≡ 0 → records_follow flags ≡ false
follow_no flags h = let n : flags / 0x100 % 2 ≡ 1 → ⊥ = λ e. omega arith in ne_eqb _ 1 n

pub follow_yes : (flags : ℕ) → (flags / 0x100 % 2 ≡ 0 → ⊥) → records_follow flags ≡ true
follow_yes flags h = let e : flags / 0x100 % 2 ≡ 1 = omega arith in eq-eqb _ 1 e

-- There are no stored bytes exactly with sector 0.
full_some : (w : ℕ) → full_of w ≡ 0 → ⊥
unfolding full_of
full_some w h = go (eqb w 0) refl
  where
    go : (t : Bool) → eqb w 0 ≡ t → ⊥
    go true e = let z : ◌≡◌ {A = ℕ} 65536 0 = rw e at h in omega arith
    go false e = eqb-false w 0 e (rw e at h)

-- A word stands for at most 65,536.
pub full_below : (w : ℕ) → w < 65536 → full_of w ≤ 65536
unfolding full_of
full_below w h = go (eqb w 0) refl
  where
    go : (t : Bool) → eqb w 0 ≡ t → full_of w ≤ 65536
    go true e = rw e (omega arith)
    go false e = rw e (omega arith)

pub stored_none : (sector len : ℕ) → stored_of sector len ≡ 0 → eqb sector 0 ≡ true
unfolding stored_of
stored_none sector len h = go (eqb sector 0) refl
  where
    go : (t : Bool) → eqb sector 0 ≡ t → eqb sector 0 ≡ true
    go true e = e
    go false e = absurd (full_some len (rw e at h))

pub stored_some : (sector len : ℕ) → (stored_of sector len ≡ 0 → ⊥) → eqb sector 0 ≡ false
unfolding stored_of
stored_some sector len h = go (eqb sector 0) refl
  where
    go : (t : Bool) → eqb sector 0 ≡ t → eqb sector 0 ≡ false
    go true e = absurd (h (rw e))
    go false e = e

-- The same of what a record says.
pub sector_none : (image : List ℕ) (h : Header) (index : ℕ) → (segment_at image h index).stored ≡ 0 → eqb (sector_of image h index) 0 ≡ true
unfolding segment_at
sector_none image h index e = stored_none _ _ e

pub sector_some : (image : List ℕ) (h : Header) (index : ℕ) → ((segment_at image h index).stored ≡ 0 → ⊥) → eqb (sector_of image h index) 0 ≡ false
unfolding segment_at
sector_some image h index e = stored_some _ _ e
