-- The three demands, of every request on an image that consists of bytes.
-- Assumes nothing.
use mathlib.Core.Path.{◌≡◌, refl}
use Rattle.le.specs.Number.{Bytes}
use Rattle.prepare.specs.Prepare.{Request, Outcome, Prepared, Refused, prepare_of}
use Rattle.prepare.specs.Demands.{Demands}
use Rattle.prepare.proofs.Deliver.{delivered_whole}
use Rattle.prepare.proofs.Reject.{rejected}

pub demands : (q : Request) → Bytes q.image → Demands q (prepare_of q)
demands q bytes = go (prepare_of q) refl
  where
    go : (o : Outcome) → prepare_of q ≡ o → Demands q o
    go (Prepared count segment marks) e = delivered_whole q e
    go (Refused why number) e = rejected q bytes why number e
