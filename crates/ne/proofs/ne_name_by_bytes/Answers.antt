-- `ne::ne_name_by_bytes` meets its contract: the numbers of the answer fit, and they are handed over.
-- Assumes nothing.
use mathlib.Core.Path.{sym}
use Rattle.ne.proofs.Fits.{bytes_fits}
use Rattle.ne.proofs.ne_name_by_bytes.Goals as goal

pub name-requires : goal.name-requires
name-requires c = bytes_fits c.args.image.now c.args.name.now c.by_bytes.result (sym c.by_bytes.ensures)
