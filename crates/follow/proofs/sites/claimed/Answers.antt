-- `follow::sites::claimed` meets its contract: each way is a case of the definition.
-- Assumes nothing.
use Rattle.std.proofs.Common.{◌≡◌, refl, true, false}
use borrow.Author.Tests.{eq-eqb, ne_eqb}
use Rattle.site.specs.Walk.{is_last}
use Rattle.follow.proofs.Pass.{ends, goes}
use Rattle.follow.proofs.sites.claimed.Goals as goal

pub returns-then-f-clause-is : goal.returns-then-f-clause-is
returns-then-f-clause-is c =
    let last : is_last c.args.f c.word.result ≡ true = rw c.if-f.true in
    ends _ _ _ _ _ _ _ _ refl c.word.ensures c.put.ensures c.if-done-ge65536.false last

pub returns-then-word-clause-is : goal.returns-then-word-clause-is
returns-then-word-clause-is c =
    let end : c.word-word.result ≡ 0xffff = c.if-word.true in
    let last : is_last c.args.f c.word-word.result ≡ true = rw (c.if-f.false, eq-eqb _ _ end) in
    ends _ _ _ _ _ _ _ _ refl c.word-word.ensures c.put-2.ensures c.if-done-ge65536.false last

pub returns-clause-is : goal.returns-clause-is
returns-clause-is c =
    let more : is_last c.args.f c.word-word.result ≡ false = rw (c.if-f.false, ne_eqb _ _ c.if-word.false) in
    goes _ _ _ _ _ _ _ _ refl c.word-word.ensures c.put-2.ensures c.if-done-ge65536.false more
