-- The laws of a sound string and of an accepted module.
--     string_sound      a sound string's text lies in the image and isn't empty
--     module_accepted   so does that of an accepted module, in an image of at most 16,777,216 bytes
-- Assumes nothing.
use Rattle.std.proofs.Common.{Ok, Some, ◌≡◌, ℕ, ◌≤◌, List, length, arith}
use borrow.Author.Tests.{ltb-false, eqb-false}
use Rattle.header.specs.declared.Header.{Header}
use Rattle.header.proofs.Bounds as header-bounds
use Rattle.imports.specs.Module.{string_at, reference_of, module_of}
use Rattle.imports.specs.InImage.{InImage}
use Rattle.imports.specs.declared.Text.{Text}

pub string_sound : (image : List ℕ) (h : Header) (place : ℕ) (text : Text) → string_at image h place ≡ Some text → InImage image text
unfolding string_at
string_sound image h place text e = record { some = grind (arith, ltb-false, eqb-false); inside = grind (arith, ltb-false, eqb-false) }

from_reference : (image : List ℕ) (h : Header) (number : ℕ) (text : Text) → reference_of image h number ≡ Ok text → InImage image text
unfolding reference_of
from_reference image h number text e = grind (arith, string_sound)

pub module_accepted : (image : List ℕ) (number : ℕ) (text : Text) → module_of image number ≡ Ok text → (length image ≤ 16777216) × InImage image text
unfolding module_of
module_accepted image number text e = grind (arith, from_reference, header-bounds.accepted)
