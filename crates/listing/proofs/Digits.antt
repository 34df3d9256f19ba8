-- The laws of a number's last digits.
--     digits_length            there are as many as were asked for
--     digits_none, digits_last   how they are written: none, or the last one after those of the quotient
-- Assumes nothing.
use Rattle.std.proofs.Common.{◌≡◌, refl, [], ◌∷◌, ℕ, zero, suc, ◌-◌, ◌/◌, ◌%◌, ◌<◌, arith, length, length-append}
use native.Mathlib.Nat.{not-suc-le-zero}
use Rattle.listing.specs.Text.{digit_of, digits_of}
use Rattle.listing.specs.Internal.{Writes}
use Rattle.listing.specs.declared.text.Writer.{Writer}
use Rattle.listing.proofs.Writing.{nothing, then}

pub digits_length : (base width n : ℕ) → length (digits_of base width n) ≡ width
unfolding digits_of
digits_length base zero n = refl
digits_length base (suc width) n =
    let rest : length (digits_of base width (n / base)) ≡ width = digits_length base width (n / base) in
    rw (length-append (digits_of base width (n / base)) (digit_of (n % base) ∷ []), rest) (omega arith)

pub digits_none : {w : Writer} (base width n : ℕ) → width ≡ 0 → Writes w (digits_of base width n) w
unfolding digits_of
digits_none {w} base width n none = rw none (nothing w)

pub digits_last : {u v w : Writer} {digit : ℕ} (base width n : ℕ) → 0 < width → digit ≡ digit_of (n % base) → Writes u (digits_of base (width - 1) (n / base)) v → Writes v (digit ∷ []) w → Writes u (digits_of base width n) w
unfolding digits_of
digits_last base zero n some is first last = absurd (not-suc-le-zero some)
digits_last base (suc width) n some is first last =
    let rest : suc width - 1 ≡ width = omega arith in
    then (rw rest at first) (rw is at last)
