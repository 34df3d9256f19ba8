-- `ne::ne_module` meets its contract: each arm hands the answer's numbers over, and an accepted text lies in the image, so
-- its place fits.
-- Assumes nothing.
use mathlib.Core.Path.{sym, ◌∙◌}
use native.Mathlib.Omega.{arith}
use Rattle.imports.proofs.Bounds.{module_accepted}
use Rattle.ne.proofs.ne_module.Goals as goal

pub overflow_cast-result : goal.overflow_cast-result
overflow_cast-result c =
    let a = c.args in
    let h = module_accepted a.image.now a.number c.in-Ok.text (sym c.by_number.ensures ∙ c.in-Ok.is) in
    omega (arith, h.0, h.1.inside)
