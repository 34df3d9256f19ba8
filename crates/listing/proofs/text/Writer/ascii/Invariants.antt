-- The bytes before this one are written.
use Rattle.std.proofs.Common.{take}
use Rattle.listing.specs.Internal.{Writes}
use Rattle.listing.proofs.text.Writer.ascii.Given as goal

abbrev pub invariant-loop-b : goal.invariant-loop-b
invariant-loop-b l = Writes l.initial.self (take l.b-index l.s) l.self
