-- `entry::heads::find` meets its contract. The loop's invariant: the walk stands at a place of the table, and `left` ordinals come
-- from there on before the one that is looked for.
-- Assumes nothing.
use mathlib.Core.Path.{◌≡◌, ◌∙◌}
use Prim.Native.Nat.{◌+◌, ◌*◌, ◌-◌, ◌/◌, ◌≤◌, ◌<◌}
use native.Mathlib.Omega.{arith}
use lib.ListN.{drop}
use Rattle.bundle.specs.Bundle.{kind_of, width_of, entry_of}
use Rattle.entry.proofs.Marks.{none_is_0, mark_ends, mark_covers, mark_goes_on}
use Rattle.entry.proofs.heads.find.Goals as goal

pub returns-then-number-eq0 : goal.returns-then-number-eq0
returns-then-number-eq0 c =
    let zero : c.args.number ≡ 0 = c.if-number-eq0.true in
    λ segments bundles sound. rw (zero, none_is_0 bundles)

pub loop-head-init : goal.loop-head-init
loop-head-init c =
    let a = c.args in
    let place = c.nearest-place.result in
    let low : place.used ≤ a.number - 1 = rw c.nearest-place.ensures (let low = c.requires.low ((a.number - 1) / 4) in omega (arith, low)) in
    let used : a.number - 1 - (a.number - 1 - place.used) ≡ place.used = omega arith in
    (omega arith, λ segments bundles sound. rw (used, c.nearest-place.ensures) (c.requires.marks ((a.number - 1) / 4) segments bundles sound))

pub returns-then-count-eq0 : goal.returns-then-count-eq0
returns-then-count-eq0 c =
    let a = c.args in
    let l = c.loop-head in
    λ segments bundles sound. rw (mark_ends a.table.now segments bundles l.at (a.number - 1 - l.left) (l.invariant.1 segments bundles sound) c.head_at-head.result c.head_at-head.ensures.is c.if-count-eq0.true a.number (omega arith))

pub returns-then-left-count : goal.returns-then-left-count
returns-then-left-count c =
    let a = c.args in
    let l = c.loop-head in
    let h = c.head_at-head in
    let kind : c.kind_of-kind.result ≡ kind_of h.result.segment = c.kind_of-kind.ensures in
    let entry : c.read_entry.result ≡ entry_of (kind_of h.result.segment) (drop (l.at + 2 + width_of (kind_of h.result.segment) * l.left) a.table.now) = c.read_entry.ensures ∙ rw (c.from.ensures, c.width.ensures.is, kind) in
    let left : a.number - 1 - (a.number - 1 - l.left) ≡ l.left = omega arith in
    let near : a.number ≤ a.number - 1 - l.left + h.result.count = omega arith in
    λ segments bundles sound. entry ∙ rw (mark_covers a.table.now segments bundles l.at (a.number - 1 - l.left) (l.invariant.1 segments bundles sound) h.result h.ensures.is a.number (omega arith) near, left)

pub loop-head-preserved : goal.loop-head-preserved
loop-head-preserved c =
    let a = c.args in
    let l = c.loop-head in
    let h = c.head_at-head in
    let used : a.number - 1 - (l.left - h.result.count) ≡ a.number - 1 - l.left + h.result.count = omega arith in
    let low : l.left - h.result.count < a.number = omega arith in
    (low, λ segments bundles sound. rw (c.size_of.ensures.is, used) (mark_goes_on a.table.now segments bundles l.at (a.number - 1 - l.left) (l.invariant.1 segments bundles sound) h.result h.ensures.is (omega arith)))
