-- A record that is refused ends the pass.
use Rattle.std.proofs.Common.{◌∙◌, arith}
use Rattle.loader.specs.Internal.{action_of_job}
use Rattle.loader.proofs.Turns.{run_stops}
use Rattle.loader.proofs.records.all.Goals as goal

pub returns-in-Err : goal.returns-in-Err
returns-in-Err c =
    let a = c.args in
    let j = a.job.now in
    let l = c.loop-index in
    run_stops a.stored.now j.segment.records (action_of_job j) l.sites l.marks l.bytes l.index (omega arith) c.in-Err.ensures ∙ l.invariant
