-- `entry::index::fill` meets its contract. The loop's invariant: the index is one, and the walk stands at a place of the table.
-- Assumes nothing.
use mathlib.Core.Path.{◌≡◌, ◌∙◌, refl}
use native.Mathlib.Omega.{arith}
use Rattle.entry.proofs.Marks.{mark_goes_on}
use Rattle.entry.proofs.Indexed.{start_marked, put_indexes}
use Rattle.entry.proofs.index.fill.Goals as goal

pub loop-at-init : goal.loop-at-init
loop-at-init c =
    let pre = c.requires in
    let a = c.args in
    (omega arith, refl, pre, start_marked a.table.now)

pub loop-at-preserved : goal.loop-at-preserved
loop-at-preserved c =
    let l = c.loop-at in
    let a = c.args in
    let put = c.put in
    let h = c.head_at-head in
    let count : h.result.count ≡ 0 → ⊥ = c.if-count-eq0.false in
    (omega arith, put.auto.index ∙ l.invariant.1, put_indexes a.table.now l.index put.new.index (record { at = l.at; used = l.used }) c.first.result c.first.ensures.behind l.invariant.3 l.invariant.2 put.ensures, λ segments all sound. rw c.size_of.ensures.is (mark_goes_on a.table.now segments all l.at l.used (l.invariant.3 segments all sound) h.result h.ensures.is (omega arith)))
