-- Demand 2 on the bytes of a segment whose sites are known.
use Rattle.std.specs.Prelude.{◌≡◌, Bool, true, false, List, ℕ, ◌+◌, ◌≤◌, ◌<◌, ◌%◌, length}
use Rattle.le.specs.Number.{byte_at, word_at}
use Rattle.lists.specs.Lists.{All}
use Rattle.site.specs.Site.{Site, InSpan, written}
use Rattle.site.specs.declared.Kind.{Kind}
use Rattle.site.specs.declared.Kind.TheVariants.{LowByte, Selector, Far, Offset}
use Rattle.site.specs.declared.Fixup.{Fixup}

-- That a byte is one of those that are written at a site.
abbrev pub IsWritten : List ℕ → ℕ → Site → Type 0
IsWritten stored place s = (s.at ≤ place) × (place < s.at + length (written stored s))

-- "An accepted segment is its stored bytes, zeros up to its allocation, and at each fixup site exactly what the published New
-- Executable tables, as settled in document 01, put there, and nothing else changed." A byte past the stored ones reads as 0.
pub record Exact (stored : List ℕ) (allocation : ℕ) (sites : List Site) (output : List ℕ) : Type 0 where
  pub size : length output ≡ allocation
  pub there : All (λ s. (i : ℕ) → i < length (written stored s) → byte_at output (s.at + i) ≡ byte_at (written stored s) i) sites
  pub elsewhere : (place : ℕ) → All (λ s. IsWritten stored place s → ⊥) sites → byte_at output place ≡ byte_at stored place

-- "a mark is 1 exactly at a byte of a span, else 0."
pub record Marked (size : ℕ) (sites : List Site) (marks : List ℕ) : Type 0 where
  pub size_kept : length marks ≡ size
  pub one : All (λ s. (place : ℕ) → InSpan place s → byte_at marks place ≡ 1) sites
  pub zero_else : (place : ℕ) → All (λ s. InSpan place s → ⊥) sites → byte_at marks place ≡ 0

-- The same of a site as numbers. "Not additive: the target replaces. Additive [...]: the low byte is added modulo 256; offset
-- words are added modulo 65,536, with no carry into the selector; a selector word is replaced, never added."
abbrev pub Stands : Kind → Bool → Fixup → List ℕ → ℕ → List ℕ → Type 0
Stands LowByte false f stored at output = byte_at output at ≡ f.offset % 256
Stands LowByte true f stored at output = byte_at output at ≡ (byte_at stored at + f.offset) % 256
Stands Selector additive f stored at output = word_at output at ≡ f.selector % 65536
Stands Far false f stored at output = (word_at output at ≡ f.offset % 65536) × (word_at output (at + 2) ≡ f.selector % 65536)
Stands Far true f stored at output = (word_at output at ≡ (word_at stored at + f.offset) % 65536) × (word_at output (at + 2) ≡ f.selector % 65536)
Stands Offset false f stored at output = word_at output at ≡ f.offset % 65536
Stands Offset true f stored at output = word_at output at ≡ (word_at stored at + f.offset) % 65536
