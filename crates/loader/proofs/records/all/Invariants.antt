-- The pass over the records from an index on is that from the first on.
use Rattle.std.proofs.Common.{◌≡◌, suc, drop}
use Rattle.loader.specs.Internal.{run_from, actions_of_job}
use Rattle.loader.proofs.records.all.Given as goal

abbrev pub invariant-loop-index : goal.invariant-loop-index
invariant-loop-index l =
    run_from l.stored (drop l.index (actions_of_job l.job)) (suc l.index) l.sites l.marks l.bytes ≡ run_from l.stored (actions_of_job l.job) 1 0 l.initial.marks l.initial.bytes
