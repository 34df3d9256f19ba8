-- `ne::ne_name_by_number` meets its contract: the numbers of the answer fit, and they are handed over.
-- Assumes nothing.
use mathlib.Core.Path.{sym}
use Rattle.ne.proofs.Fits.{number_fits}
use Rattle.ne.proofs.ne_name_by_number.Goals as goal

pub name-requires : goal.name-requires
name-requires c = number_fits c.args.image.now c.args.number c.by_number.result (sym c.by_number.ensures)
