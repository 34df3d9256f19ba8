-- `list::show` meets its contract: no listing is longer than the array.
-- Assumes nothing.
use Rattle.std.proofs.Common.{◌≡◌, ◌≤◌, ℕ, length, sym, ◌∙◌, arith}
use lib.ListN.{length-replicate}
use lib.Seq.{length-take-le}
use Rattle.listing.proofs.Bound.{listing_short}
use Rattle.list.proofs.show.Goals as goal

pub slice_bounds-out-end : goal.slice_bounds-out-end
slice_bounds-out-end c =
    let size : length c.write-n.new.out ≡ 458771 = c.write-n.auto.out ∙ length-replicate {A = ℕ} 458771 0 in
    let short = listing_short c.args.image.now in
    omega (arith, size, short, c.write-n.ensures.len)

pub slice_bounds-write_all-end : goal.slice_bounds-write_all-end
slice_bounds-write_all-end c =
    let size : length c.write-n.new.out ≡ 458771 = c.write-n.auto.out ∙ length-replicate {A = ℕ} 458771 0 in
    let short = listing_short c.args.image.now in
    let fits : c.write-n.result ≤ length c.write-n.new.out = omega (arith, size, short, c.write-n.ensures.len) in
    sym (length-take-le c.write-n.result c.write-n.new.out fits)
