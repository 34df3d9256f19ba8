-- The numbers of an accepted name fit the fields: it lies in the image.
-- Assumes nothing.
use Rattle.std.specs.Prelude.{Result, Ok, Err}
use mathlib.Core.Path.{◌≡◌}
use mathlib.Core.List.{List}
use Prim.Native.Nat.{ℕ}
use native.Mathlib.Omega.{arith}
use Rattle.refusal.specs.declared.Refusal.{Refusal}
use Rattle.names.specs.declared.Name.{Name}
use Rattle.names.specs.InImage.{InImage}
use Rattle.names.specs.Names.{name_by_number, name_by_bytes}
use Rattle.names.proofs.Bounds.{number_accepted, bytes_accepted}
use Rattle.ne.specs.Internal.{NameFits}

inside : (image : List ℕ) (n : Name) → InImage image n → NameFits (Ok n)
inside image n i = (omega (arith, i.number), omega (arith, i.inside, i.size))

pub number_fits : (image : List ℕ) (number : ℕ) (a : Result Name Refusal) → name_by_number image number ≡ a → NameFits a
number_fits image number (Ok n) e = inside image n (number_accepted image number n e).0
number_fits image number (Err why) e = tt

pub bytes_fits : (image name : List ℕ) (a : Result Name Refusal) → name_by_bytes image name ≡ a → NameFits a
bytes_fits image name (Ok n) e = inside image n (bytes_accepted image name n e).0
bytes_fits image name (Err why) e = tt
