-- One byte more.
use Rattle.std.proofs.Common.{◌≡◌, [], ◌∷◌, ◌++◌, ◌+◌, take, get_or, add-one}
use lib.Seq.{take-suc}
use Rattle.listing.proofs.Writing.{then}
use Rattle.listing.proofs.text.Writer.ascii.Goals as goal

pub loop-b-preserved : goal.loop-b-preserved
loop-b-preserved c =
    let s = c.args.s.now in
    let i = c.loop-b.b-index in
    let one : take (i + 1) s ≡ take i s ++ (get_or s i 0 ∷ []) = rw add-one (take-suc s i 0 c.loop-b-test.true) in
    rw one (then c.loop-b.invariant c.byte.ensures)
