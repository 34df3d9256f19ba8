-- Without records the stored bytes are all there is to do.
use Rattle.loader.proofs.Left.{none_left}
use Rattle.loader.proofs.apply.segment.Goals as goal

pub returns-then-job-eq0 : goal.returns-then-job-eq0
returns-then-job-eq0 c =
    let j = c.args.job.now in
    rw (c.output.ensures, c.stored.ensures) (none_left j.module.image.now j.module.header j.segment j.selectors.now j.answers.now c.args.output.now c.args.marks.now j.fits c.requires c.if-job-eq0.true)
