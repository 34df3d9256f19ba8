-- A header is refused by 1 to 7.
-- Assumes nothing.
use Rattle.std.specs.Prelude.{Err}
use mathlib.Core.Path.{◌≡◌}
use mathlib.Core.List.{List}
use Prim.Native.Nat.{ℕ}
use native.Mathlib.Omega.{arith}
use Rattle.checks.proofs.Checks.{because}
use Rattle.checks.proofs.Impossible.{never}
use Rattle.refusal.specs.Number.{Between}
use Rattle.refusal.specs.declared.Refusal.{Refusal}
use Rattle.header.specs.Header.{header_of, header_checks}

pub refused : (image : List ℕ) (why : Refusal) → header_of image ≡ Err why → Between 1 7 why
unfolding header_of header_checks
refused image why e = because Err (λ w w' z. cc) (Between 1 7) (header_checks image) _ (omega arith) why (λ z. never cc) e
