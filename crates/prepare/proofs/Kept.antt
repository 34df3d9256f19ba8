-- What answers, and leaves in the buffers, what preparing means, keeps preparing's promise.
-- Assumes nothing.
use Rattle.std.specs.Prelude.{Result}
use mathlib.Core.Path.{◌≡◌, refl}
use mathlib.Core.List.{List, ◌++◌}
use Prim.Native.Nat.{ℕ}
use lib.ListN.{length, take, drop}
use lib.Seq.{take_at, drop_at}
use Rattle.le.specs.Number.{Bytes}
use Rattle.prepare.specs.declared.Rejection.{Rejection}
use Rattle.prepare.specs.Prepare.{Request, Outcome, Prepared, Refused, prepare_of, answer_of, output_after, marks_after}
use Rattle.prepare.specs.Demands.{Demands}
use Rattle.prepare.specs.Promise.{Meets, Promise}
use Rattle.prepare.proofs.Demands.{demands}

module _ (q : Request) (bytes : Bytes q.image) (output marks : List ℕ) where
  meets : (o : Outcome) → prepare_of q ≡ o → Demands q o → Meets q (answer_of o) output (output_after o output) marks (marks_after o marks)
  meets (Prepared count segment found) e (h, s, ready, d) =
      let size = d.exact.size in
      let front : take s.allocation (segment ++ drop (length segment) output) ≡ segment = take_at segment (drop (length segment) output) s.allocation size in
      let behind : drop s.allocation (segment ++ drop (length segment) output) ≡ drop (length segment) output = drop_at segment (drop (length segment) output) s.allocation size in
      (h, s, ready, rw front d, rw (behind, size))
  meets (Refused why number) e r = (r.beside, refl, refl)

  pub kept : (answer : Result ℕ Rejection) (output' marks' : List ℕ) → answer ≡ answer_of (prepare_of q) → output' ≡ output_after (prepare_of q) output → marks' ≡ marks_after (prepare_of q) marks → Promise q answer output output' marks marks'
  kept answer output' marks' a o m =
      record { answer_is = a; output_is = o; marks_are = m; demands = rw (a, o, m) (meets (prepare_of q) refl (demands q bytes)) }
