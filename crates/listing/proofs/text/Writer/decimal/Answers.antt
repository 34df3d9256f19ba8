-- The byte after the digits.
use Rattle.std.proofs.Common.{sym}
use Rattle.listing.proofs.Writing.{then}
use Rattle.listing.proofs.text.Writer.decimal.Goals as goal

pub returns : goal.returns
returns c = rw (sym c.decimal_width.ensures) (then c.digits.ensures c.byte.ensures)
