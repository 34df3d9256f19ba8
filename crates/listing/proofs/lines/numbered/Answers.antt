-- The number after the word.
use Rattle.std.proofs.Common.{rules}
use Rattle.listing.proofs.Writing.{then}
use Rattle.listing.proofs.lines.numbered.Goals as goal

pub returns : goal.returns
returns c = search (rules, then)
