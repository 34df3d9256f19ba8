-- No digits, or the last one after those of the quotient.
use Rattle.std.proofs.Common.{arith}
use Rattle.listing.proofs.Digits.{digits_none, digits_last}
use Rattle.listing.proofs.text.Writer.+digits.Goals as goal

pub returns-then-width-eq0 : goal.returns-then-width-eq0
returns-then-width-eq0 g t c = digits_none _ _ _ c.if-width-eq0.true

pub returns : goal.returns
returns g t c =
    let a = c.args in
    digits_last g.row.BASE a.width a.n (omega arith) c.digit.ensures c.digits.ensures c.byte.ensures
