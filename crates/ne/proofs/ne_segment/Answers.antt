-- `ne::ne_segment` meets its contract: each arm hands the answer's numbers over, and an accepted start lies in the image,
-- so it fits.
-- Assumes nothing.
use mathlib.Core.Path.{sym, ◌∙◌}
use native.Mathlib.Omega.{arith}
use Rattle.segment.proofs.Bounds.{accepted}
use Rattle.ne.proofs.ne_segment.Goals as goal

pub overflow_cast-result : goal.overflow_cast-result
overflow_cast-result c =
    let a = c.args in
    let h = accepted a.image.now a.number c.in-Ok.s (sym c.by_number.ensures ∙ c.in-Ok.is) in
    omega (arith, h.0, h.1.stored)
