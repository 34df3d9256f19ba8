-- The laws of little-endian numbers, once over the width.
--     number_add    a number of a + b bytes is its low a bytes and, 256 ^ a times as high, the b bytes behind them
--     joined        so it is read by reading the two and joining them
--     number_one    a number of one byte is that byte
--     word_joined   a word is its two bytes joined
--     dword_words   a dword is its two words joined
--     dword_joined  so it is its four bytes joined
--     number_past   past the end every number is 0
--     number_below  a number of so many bytes is below 256 to that power
--     number_bytes  the bytes of a number that they can hold read as that number
-- Assumes nothing.
use mathlib.Core.Path.{◌≡◌, refl, sym, ◌∙◌}
use mathlib.Core.List.{List, ◌∷◌}
use Prim.Native.Nat.{ℕ, zero, suc, ◌+◌, ◌*◌, ◌/◌, ◌%◌, ◌^◌, ◌≤◌, ◌<◌}
use native.Mathlib.Nat.{zero-add, suc-add, add-suc, add-zero, one-mul, mul-add, add_assoc, mul_assoc, pow-succ', pow-zero}
use native.Mathlib.Omega.{arith}
use lib.ListN.{length, get_or-eq_default}
use Rattle.le.specs.Number.{number, byte_at, Bytes, bytes_of}

pub number_add : (a b : ℕ) (s : List ℕ) (at : ℕ) → number (a + b) s at ≡ number a s at + 256 ^ a * number b s (at + a)
unfolding number
number_add zero b s at = simp (zero-add, add-zero, pow-zero, one-mul)
number_add (suc a) b s at = simp (suc-add, number_add a b s (suc at), add-suc, mul-add, pow-succ', mul_assoc, add_assoc)

pub joined : (a b : ℕ) (s : List ℕ) (at : ℕ) {low high : ℕ} → low ≡ number a s at → high ≡ number b s (at + a) → low + 256 ^ a * high ≡ number (a + b) s at
joined a b s at l h = rw (l, h, number_add a b s at)

pub number_one : (s : List ℕ) (at : ℕ) → byte_at s at ≡ number 1 s at
unfolding number
number_one s at = omega arith

pub word_joined : (s : List ℕ) (at : ℕ) → number 2 s at ≡ byte_at s at + 256 * byte_at s (at + 1)
word_joined s at = sym (joined 1 1 s at (number_one _ _) (number_one _ _))

pub dword_words : (s : List ℕ) (at : ℕ) → number 4 s at ≡ number 2 s at + 65536 * number 2 s (at + 2)
dword_words s at = sym (joined 2 2 s at refl refl)

pub dword_joined : (s : List ℕ) (at : ℕ) → number 4 s at ≡ byte_at s at + 256 * byte_at s (at + 1) + 65536 * (byte_at s (at + 2) + 256 * byte_at s (at + 3))
dword_joined s at =
    let last : at + 2 + 1 ≡ at + 3 = omega arith in
    sym (joined 2 2 s at (sym (word_joined s at)) (rw (← last) (sym (word_joined s (at + 2)))))

pub number_past : (width : ℕ) (s : List ℕ) (at : ℕ) → length s ≤ at → number width s at ≡ 0
unfolding number
number_past zero s at h = refl
number_past (suc width) s at h =
    let rest : number width s (suc at) ≡ 0 = number_past width s (suc at) (omega arith) in
    let here : byte_at s at ≡ 0 = get_or-eq_default s 0 h in
    omega arith

pub number_below : (width : ℕ) (s : List ℕ) (at : ℕ) → Bytes s → number width s at < 256 ^ width
unfolding number
number_below zero s at bytes = omega arith
number_below (suc width) s at bytes =
    let low : byte_at s at < 256 = bytes at in
    let rest : number width s (suc at) < 256 ^ width = number_below width s (suc at) bytes in
    rw (pow-succ') (omega arith)

number_behind : (width b : ℕ) (s : List ℕ) (at : ℕ) → number width (b ∷ s) (suc at) ≡ number width s at
unfolding number
number_behind zero b s at = refl
number_behind (suc width) b s at = rw (number_behind width b s (suc at))

pub number_bytes : (width n : ℕ) → n < 256 ^ width → number width (bytes_of width n) 0 ≡ n
unfolding number
number_bytes zero n h = omega (arith, rw pow-zero at h)
number_bytes (suc width) n h =
    let whole : n < 256 * 256 ^ width = rw pow-succ' at h in
    let rest : number width (bytes_of width (n / 256)) 0 ≡ n / 256 = number_bytes width (n / 256) (omega arith) in
    let behind : number width (n % 256 ∷ bytes_of width (n / 256)) 1 ≡ n / 256 = number_behind width (n % 256) (bytes_of width (n / 256)) 0 ∙ rest in
    omega arith
