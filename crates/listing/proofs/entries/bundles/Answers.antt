-- What is left to be written, at the start, after a bundle and at the end.
use Rattle.std.proofs.Common.{◌≡◌, ◌∙◌, sym, Ok, Some}
use Rattle.bundle.specs.Bundle.{step_of}
use Rattle.listing.proofs.Writing.{more, done}
use Rattle.listing.proofs.Passed.{went_on, lines_start, lines_end, sound_on, lines_more}
use Rattle.listing.proofs.entries.bundles.Goals as goal

pub loop-b-init : goal.loop-b-init
loop-b-init c =
    let a = c.args in
    rw (lines_start a.table.now a.segments) (record { sound = c.requires; still = λ last w. w })

pub loop-b-preserved : goal.loop-b-preserved
loop-b-preserved c =
    let l = c.loop-b in
    let a = c.args in
    let b = c.in-Some.b in
    let step : step_of a.table.now a.segments l.at l.used ≡ Ok (Some b) = sym c.next.ensures.is ∙ went_on c.next.result b c.in-Some.ensures in
    let lines = lines_more a.table.now a.segments l.at l.used b l.invariant.sound step in
    record {
      sound = sound_on a.table.now a.segments l.at l.used b l.invariant.sound step;
      still = more c.bundle.ensures (rw lines at l.invariant.still);
    }

pub returns : goal.returns
returns c =
    let l = c.loop-b in
    let a = c.args in
    let none = lines_end a.table.now a.segments l.at l.used l.invariant.sound (rw c.next.ensures.is at c.in_default.ensures) in
    done (rw none at l.invariant.still)
