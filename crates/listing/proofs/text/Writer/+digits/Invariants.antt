-- The width falls.
use Rattle.listing.proofs.text.Writer.+digits.Given as goal

abbrev pub decreases-digits : goal.decreases-digits
decreases-digits g l = l.width
