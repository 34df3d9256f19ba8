-- Text as bytes: words in ASCII, decimal and hexadecimal numbers.
use Rattle.std.specs.Prelude.{cond, List, [], ◌∷◌, ◌++◌, ℕ, zero, suc, ◌+◌, ◌/◌, ◌%◌, ltb}
use Prim.Native.Char.{code}
use Prim.Native.String.{String}
use Prim.Native.String as string

abbrev pub ascii : String → List ℕ
ascii string.[] = []
ascii (string.◌∷◌ c rest) = code c ∷ ascii rest

-- 0 to 9, then A to F.
unfoldable pub digit_of : ℕ → ℕ
digit_of d = cond (ltb d 10) (48 + d) (55 + d)

-- The last `width` digits of a number in a base up to 16.
unfoldable pub digits_of : ℕ → ℕ → ℕ → List ℕ
digits_of base zero n = []
digits_of base (suc width) n = digits_of base width (n / base) ++ (digit_of (n % base) ∷ [])

-- How many digits a number under 100,000 has in decimal.
unfoldable pub decimal_width : ℕ → ℕ
decimal_width n = cond (ltb n 10) 1 (cond (ltb n 100) 2 (cond (ltb n 1000) 3 (cond (ltb n 10000) 4 5)))

-- Such a number in decimal, without leading zeros.
abbrev pub decimal_of : ℕ → List ℕ
decimal_of n = digits_of 10 (decimal_width n) n

abbrev pub hex_of : ℕ → ℕ → List ℕ
hex_of width n = digits_of 16 width n
