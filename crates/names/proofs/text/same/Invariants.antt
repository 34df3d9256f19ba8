-- The bytes from an index on decide what all of them do.
use Rattle.std.proofs.Common.{◌≡◌, drop}
use Rattle.names.specs.Text.{same}
use Rattle.names.proofs.text.same.Given as goal

abbrev pub invariant-loop-i : goal.invariant-loop-i
invariant-loop-i l = same (drop l.i l.a) (drop l.i l.b) ≡ same l.a l.b
