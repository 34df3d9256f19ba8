-- One ordinal more.
use Rattle.std.proofs.Common.{◌≡◌, ◌∙◌, ◌+◌, ◌*◌, sym, drop}
use Rattle.bundle.specs.Bundle.{width_of, entry_of}
use Rattle.listing.proofs.Slots.{slots_none, slots_more}
use Rattle.listing.proofs.entries.bundle.Goals as goal

pub loop-index-init : goal.loop-index-init
loop-index-init c = slots_none _ _ _ _ _

pub loop-index-preserved : goal.loop-index-preserved
loop-index-preserved c =
    let b = c.args.b in
    let answer : c.read_entry-answer.result ≡ entry_of b.kind (drop (b.at + width_of b.kind * c.loop-index.index) c.args.table.now) = c.read_entry-answer.ensures ∙ rw (c.from.ensures, c.width.ensures.is) in
    slots_more _ _ _ c.args.table.now b.kind (b.used + 1) b.at c.loop-index.index c.loop-index.invariant (rw (sym answer) c.ordinal.ensures)
