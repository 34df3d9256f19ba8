-- `target::read::record` meets its contract: a record can be read from its own bytes.
-- Assumes nothing.
use mathlib.Core.Path.{◌≡◌, ◌∙◌}
use Prim.Native.Nat.{◌+◌, ◌*◌, ◌-◌}
use native.Mathlib.Omega.{arith}
use lib.ListN.{take, drop}
use Rattle.fixup.specs.Record.{record_at}
use Rattle.fixup.proofs.Fields.{own_bytes, from_own}
use Rattle.target.proofs.read.record.Goals as goal

pub returns-then-end-part : goal.returns-then-end-part
returns-then-end-part c =
    let a = c.args in
    let at = 8 * a.index in
    let eight : at + 8 - at ≡ 8 = omega arith in
    let own : record_at (take (at + 8 - at) (drop at a.part.now)) 0 ≡ record_at a.part.now a.index = rw eight (own_bytes a.part.now a.index) in
    rw c.fields.ensures own

pub returns : goal.returns
returns c =
    let a = c.args in
    let own : record_at c.from.result.now 0 ≡ record_at a.part.now a.index = rw c.from.ensures (from_own a.part.now a.index) in
    c.fields-2.ensures ∙ own
