-- Numbers in a list of bytes. Document 01: "Words are little-endian."
use Rattle.std.specs.Prelude.{ℕ, zero, suc, ◌+◌, ◌*◌, ◌/◌, ◌%◌, ◌<◌, List, [], ◌∷◌, get_or}

-- The byte at a place; 0 past the end, so that every place has one.
abbrev pub byte_at : List ℕ → ℕ → ℕ
byte_at s at = get_or s at 0

-- That a list consists of bytes.
abbrev pub Bytes : List ℕ → Type 0
Bytes s = (i : ℕ) → byte_at s i < 256

-- The number in the `width` bytes from a place on, the lowest byte first.
unfoldable pub number : ℕ → List ℕ → ℕ → ℕ
number zero s at = 0
number (suc width) s at = byte_at s at + 256 * number width s (suc at)

-- A word has two bytes, a dword four.
abbrev pub word_at : List ℕ → ℕ → ℕ
word_at s at = number 2 s at

abbrev pub dword_at : List ℕ → ℕ → ℕ
dword_at s at = number 4 s at

-- The lowest `width` bytes of a number, the lowest first.
abbrev pub bytes_of : ℕ → ℕ → List ℕ
bytes_of zero n = []
bytes_of (suc width) n = n % 256 ∷ bytes_of width (n / 256)
