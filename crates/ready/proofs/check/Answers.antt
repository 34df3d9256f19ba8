-- The header's answer, the segment's, then the sizes.
use Rattle.std.proofs.Common.{◌≡◌, ◌∙◌, sym, Err, rules}
use Rattle.prepare.specs.Prepare.{request_of}
use Rattle.ready.proofs.Parts.{by_header, by_segment, by_sizes}
use Rattle.ready.proofs.check.Goals as goal

pub returns-in_err-header : goal.returns-in_err-header
returns-in_err-header c =
    let a = c.args in
    let refused : c.from_residual.result ≡ Err c.in_err-header.field-0.0 = search rules in
    refused ∙ sym (by_header (request_of a.image.now a.number a.selectors.now a.answers.now a.output a.marks) _ (sym c.in_err-header.ensures))

pub returns-in_err-s : goal.returns-in_err-s
returns-in_err-s c =
    let a = c.args in
    let refused : c.from_residual-in_err-s.result ≡ Err c.in_err-s.field-0.0 = search rules in
    refused ∙ sym (by_segment (request_of a.image.now a.number a.selectors.now a.answers.now a.output a.marks) c.in_ok-header.header _ (sym c.in_ok-header.ensures) (sym c.in_err-s.ensures))

pub returns : goal.returns
returns c =
    let a = c.args in
    c.sized.ensures ∙ sym (by_sizes (request_of a.image.now a.number a.selectors.now a.answers.now a.output a.marks) c.in_ok-header.header c.in_ok-s.s (sym c.in_ok-header.ensures) (sym c.in_ok-s.ensures))
