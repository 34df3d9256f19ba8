-- The byte after the digits.
use Rattle.std.proofs.Common.{rules}
use Rattle.listing.proofs.Writing.{then}
use Rattle.listing.proofs.text.Writer.hex.Goals as goal

pub returns : goal.returns
returns c = search (rules, then)
