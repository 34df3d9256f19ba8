-- The array is long enough, and the table's start alone is an index of any table.
use Rattle.std.proofs.Common.{arith}
use Rattle.entry.specs.Ordinal.{table_bytes}
use Rattle.entry.proofs.Indexed.{start_index}
use Rattle.loader.proofs.apply.in_array.Goals as goal

pub whole_as_front-bytes : goal.whole_as_front-bytes
whole_as_front-bytes g c = (c.requires.room, omega arith)

pub in_bytes-requires-clause-index : goal.in_bytes-requires-clause-index
in_bytes-requires-clause-index g c = start_index (table_bytes c.args.job.now.module.image.now c.args.job.now.module.header) 1
