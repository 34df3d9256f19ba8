-- Each way writes the lines, and what is written from the front on is a copy.
use Rattle.std.proofs.Common.{◌≡◌, ◌∙◌, rules}
use Rattle.le.specs.Slice.{copied}
use Rattle.listing.specs.Internal.{Writes}
use Rattle.listing.specs.Listing.{lines_of}
use Rattle.listing.proofs.Writing.{writer_front}
use Rattle.listing.proofs.Bound.{lines_fit}
use Rattle.listing.proofs.of_any_size.Goals as goal
use Rattle.listing.proofs.of_any_size.Goals.{in-Err, in_default}

pub returns : goal.returns
returns c =
    let written : Writes c.new-text.result (lines_of c.args.image.now) c.match-list.text = elim c.match-list.branch [ in-Err w ↦ search rules | in_default w ↦ search rules ] in
    let text = writer_front written c.new-text.ensures.len (lines_fit c.args.image.now) in
    let bytes : c.match-list.text.out.now ≡ copied (lines_of c.args.image.now) c.args.out.now = text.0 ∙ rw c.new-text.ensures.out in
    record { bytes = search (rules, bytes); len = text.1 }
