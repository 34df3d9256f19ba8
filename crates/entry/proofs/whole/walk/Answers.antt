-- A refusal of the walk.
use Rattle.std.proofs.Common.{◌≡◌, ◌∙◌, sym, Err, rules}
use Rattle.entry.proofs.Walks.{walk_refused}
use Rattle.entry.proofs.whole.walk.Goals as goal

pub returns-in_err-b : goal.returns-in_err-b
returns-in_err-b c =
    let l = c.loop-b in
    let a = c.args in
    let refused : c.from_residual.result ≡ Err c.in_err-b.field-0.0 = search rules in
    refused ∙ sym (walk_refused a.table.now a.segments l.at l.used a.number l.slot _ (sym c.in_err-b.ensures.is)) ∙ l.invariant
