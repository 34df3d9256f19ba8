-- What `find` gives is what the ordinal stands for.
use Rattle.std.proofs.Common.{◌≡◌, ◌∙◌, sym, Ok, Err, arith}
use Rattle.entry.specs.Ordinal.{ordinal_in}
use Rattle.target.proofs.Entries.{entry_found, entry_lost}
use Rattle.target.proofs.named.internal.Goals as goal

pub returns-in-Ok : goal.returns-in-Ok
returns-in-Ok g c =
    let a = c.args in
    let m = a.m.now in
    let found : ordinal_in m.image.now m.header a.r.last ≡ Ok c.in-Ok.entry = sym (c.requires.1 _ c.find.ensures) ∙ c.in-Ok.is in
    sym (entry_found m.image.now m.header a.r (omega arith) _ found)

pub returns-in-Err : goal.returns-in-Err
returns-in-Err g c =
    let a = c.args in
    let m = a.m.now in
    let lost : ordinal_in m.image.now m.header a.r.last ≡ Err c.in-Err.field-0 = sym (c.requires.1 _ c.find.ensures) ∙ c.in-Err.is in
    sym (entry_lost m.image.now m.header a.r (omega arith) _ lost)
