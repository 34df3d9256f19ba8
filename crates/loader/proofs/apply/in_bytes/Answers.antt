-- The pass starts on the stored bytes with no mark, and what it leaves goes to the output, or the marks are cleared.
use Rattle.std.proofs.Common.{◌≡◌, ◌∙◌, ap, sym, ◌++◌, ◌≤◌, length, drop, length-append, length-drop, arith}
use lib.Seq.{length-take-le}
use Rattle.le.specs.Slice.{zeros}
use Rattle.loader.proofs.Filled.{copied_whole}
use Rattle.loader.proofs.Left.{stored_size, accepted_left, refused_left}
use Rattle.loader.proofs.apply.in_bytes.Goals as goal

pub returns-in-Err : goal.returns-in-Err
returns-in-Err c =
    let a = c.args in
    let j = a.job.now in
    let stored = c.stored-stored.result.now in
    let size = ap length c.stored-stored.ensures ∙ stored_size j.module.image.now j.module.header j.segment j.selectors.now j.answers.now a.output.now a.marks.now j.fits c.requires.lent in
    let copy = c.copy.ensures ∙ copied_whole stored a.bytes.now (c.requires.size ∙ sym size) in
    let gave = rw (copy, c.stored-stored.ensures) at c.in-Err.ensures in
    let few : length stored ≤ length a.marks.now = omega (arith, size, c.requires.lent.marks_fit) in
    let same : length (c.all.new.marks ++ drop (length stored) a.marks.now) ≡ length a.marks.now = omega (arith, length-append c.all.new.marks (drop (length stored) a.marks.now), length-drop (length stored) a.marks.now, c.all.auto.marks, length-take-le (length stored) a.marks.now few, few) in
    let cleared : c.clear.new.dst ≡ zeros (length a.marks.now) = c.clear.ensures ∙ ap zeros same in
    rw cleared (refused_left j.module.image.now j.module.header j.segment j.selectors.now j.answers.now a.output.now a.marks.now j.fits c.requires.lent _ _ _ gave)

pub returns-in-Ok : goal.returns-in-Ok
returns-in-Ok c =
    let a = c.args in
    let j = a.job.now in
    let stored = c.stored-stored.result.now in
    let size = ap length c.stored-stored.ensures ∙ stored_size j.module.image.now j.module.header j.segment j.selectors.now j.answers.now a.output.now a.marks.now j.fits c.requires.lent in
    let copy = c.copy.ensures ∙ copied_whole stored a.bytes.now (c.requires.size ∙ sym size) in
    let gave = rw (copy, c.stored-stored.ensures) at c.in-Ok.ensures in
    rw (c.output.ensures, c.stored-stored.ensures) (accepted_left j.module.image.now j.module.header j.segment j.selectors.now j.answers.now a.output.now a.marks.now j.fits c.requires.lent _ _ _ gave)
