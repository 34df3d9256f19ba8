-- Each part after the one before it.
use Rattle.std.proofs.Common.{arith}
use Rattle.listing.proofs.Writing.{line_parts}
use Rattle.listing.proofs.lines.line.Goals as goal

pub returns : goal.returns
returns c = line_parts c.decimal.ensures c.decimal-2.ensures c.hex.ensures c.hex-2.ensures (omega arith) (omega arith) (omega arith) (omega arith)
