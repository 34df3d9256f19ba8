-- An index of starts is an index already, and stays one when it is filled.
use Rattle.entry.proofs.Indexed.{start_index}
use Rattle.loader.proofs.apply.indexed.Goals as goal

pub fill-requires : goal.fill-requires
fill-requires c = start_index c.table.result.now 16384
