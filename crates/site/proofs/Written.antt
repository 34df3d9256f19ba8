-- What stands at a site of a prepared segment, as numbers.
-- Assumes nothing.
use mathlib.Core.Path.{◌≡◌, refl, ◌∙◌}
use mathlib.Core.Bool.{Bool, true, false}
use mathlib.Core.List.{List, [], ◌∷◌}
use Prim.Native.Nat.{ℕ, suc, ◌+◌, ◌/◌, ◌%◌, ◌<◌}
use native.Mathlib.Omega.{arith}
use lib.ListN.{length}
use Rattle.le.specs.Number.{number, byte_at, word_at}
use Rattle.lists.specs.Lists.{All}
use Rattle.lists.proofs.All.{all_map}
use Rattle.site.specs.Site.{Site, offset_of, written_over, written}
use Rattle.site.specs.Exact.{Exact, Stands}
use Rattle.site.specs.declared.Kind.{Kind}
use Rattle.site.specs.declared.Kind.TheVariants.{LowByte, Selector, Far, Offset}
use Rattle.site.specs.declared.Fixup.{Fixup}

-- The word of a number's two lowest bytes.
word_is : (output : List ℕ) (at n : ℕ) → byte_at output at ≡ n % 256 → byte_at output (suc at) ≡ n / 256 % 256 → word_at output at ≡ n % 65536
unfolding number
word_is output at n low high = omega arith

-- That bytes stand in the output from a place on, one behind the other.
abbrev From : List ℕ → ℕ → List ℕ → Type 0
From output at [] = Unit
From output at (b ∷ bytes) = (byte_at output at ≡ b) × From output (suc at) bytes

from_each : (output : List ℕ) (at : ℕ) (bytes : List ℕ) → ((i : ℕ) → i < length bytes → byte_at output (at + i) ≡ byte_at bytes i) → From output at bytes
from_each output at [] h = tt
from_each output at (b ∷ bytes) h = (first, from_each output (suc at) bytes later)
  where
    first : byte_at output at ≡ b
    first = let here : at + 0 ≡ at = omega arith in rw here at (h 0 (omega arith))

    later : (i : ℕ) → i < length bytes → byte_at output (suc at + i) ≡ byte_at bytes i
    later i k = let on : at + suc i ≡ suc at + i = omega arith in rw on at (h (suc i) (omega arith))

-- The offset word, by whether the record is additive, and the selector word behind it.
module _ (f : Fixup) (there : ℕ) where
  replaced : f.additive ≡ false → offset_of f there % 65536 ≡ f.offset % 65536
  replaced e = rw e (omega arith)

  added : f.additive ≡ true → offset_of f there % 65536 ≡ (there + f.offset) % 65536
  added e = rw e (omega arith)

  far : (output : List ℕ) (at offset : ℕ) → offset_of f there % 65536 ≡ offset → From output at (written_over Far f 0 there) → (word_at output at ≡ offset) × (word_at output (at + 2) ≡ f.selector % 65536)
  far output at offset is h =
      let place : suc (suc at) ≡ at + 2 = omega arith in
      let selector = word_is output (suc (suc at)) f.selector h.1.1.0 h.1.1.1.0 in
      (word_is output at (offset_of f there) h.0 h.1.0 ∙ is, rw place at selector)

stands : (kind : Kind) (additive : Bool) (f : Fixup) (stored : List ℕ) (at : ℕ) (output : List ℕ) → f.additive ≡ additive → From output at (written_over kind f (byte_at stored at) (word_at stored at)) → Stands kind additive f stored at output
stands LowByte false f stored at output e h =
    let low : byte_at output at ≡ (0 + f.offset) % 256 % 256 = rw e at h.0 in
    omega arith
stands LowByte true f stored at output e h =
    let low : byte_at output at ≡ (byte_at stored at + f.offset) % 256 % 256 = rw e at h.0 in
    omega arith
stands Selector additive f stored at output e h = word_is output at f.selector h.0 h.1.0
stands Far false f stored at output e h = far f (word_at stored at) output at _ (replaced f (word_at stored at) e) h
stands Far true f stored at output e h = far f (word_at stored at) output at _ (added f (word_at stored at) e) h
stands Offset false f stored at output e h = word_is output at (offset_of f (word_at stored at)) h.0 h.1.0 ∙ replaced f (word_at stored at) e
stands Offset true f stored at output e h = word_is output at (offset_of f (word_at stored at)) h.0 h.1.0 ∙ added f (word_at stored at) e

pub all_stand : (stored : List ℕ) (allocation : ℕ) (sites : List Site) (output : List ℕ) → Exact stored allocation sites output → All (λ s. Stands s.fixup.kind s.fixup.additive s.fixup stored s.at output) sites
unfolding written
all_stand stored allocation sites output exact =
    all_map (λ s. (i : ℕ) → i < length (written stored s) → byte_at output (s.at + i) ≡ byte_at (written stored s) i)
    (λ s. Stands s.fixup.kind s.fixup.additive s.fixup stored s.at output)
    (λ s h. stands s.fixup.kind s.fixup.additive s.fixup stored s.at output refl (from_each output s.at (written stored s) h))
    sites
    exact.there
