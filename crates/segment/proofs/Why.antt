-- A record of the segment table is refused by 9 to 11.
-- Assumes nothing.
use Rattle.std.specs.Prelude.{Ok, Err}
use mathlib.Core.Path.{◌≡◌}
use mathlib.Core.List.{List}
use Prim.Native.Nat.{ℕ}
use native.Mathlib.Omega.{arith}
use lib.ListN.{length}
use Rattle.checks.proofs.Checks.{because}
use Rattle.checks.proofs.Impossible.{never}
use Rattle.refusal.specs.Number.{Between}
use Rattle.refusal.specs.declared.Refusal.{Refusal}
use Rattle.header.specs.declared.Header.{Header}
use Rattle.segment.specs.Segment.{sector_of, segment_at, segment_checks, record_of}

pub refused : (image : List ℕ) (h : Header) (index : ℕ) (why : Refusal) → record_of image h index ≡ Err why → Between 9 11 why
unfolding record_of segment_checks
refused image h index why e = because Err (λ w w' z. cc) (Between 9 11) (segment_checks (length image) (sector_of image h index) (segment_at image h index)) (Ok (segment_at image h index)) (omega arith) why (λ z. never cc) e
