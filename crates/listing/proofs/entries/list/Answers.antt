-- The walk says what the table is, and the parts are written one after the other.
use Rattle.std.proofs.Common.{◌≡◌, ◌∙◌, sym, Ok}
use Rattle.entry.specs.Table.{table_of}
use Rattle.entry.specs.Internal.{walk_of}
use Rattle.entry.specs.Ordinal.{table_bytes}
use Rattle.listing.proofs.Writing.{then}
use Rattle.listing.proofs.Walks.{sound_lines}
use Rattle.listing.proofs.entries.list.Goals as goal

pub returns-clause-ok : goal.returns-clause-ok
returns-clause-ok c =
    let image = c.args.image.now in
    let h = c.in_ok-header.header in
    let found = c.in_ok-found.found in
    let table = c.table-table.ensures in
    let walk : walk_of (table_of (table_bytes image h) h.segments.count) 0 ≡ Ok found = rw (sym table) (sym c.walk.ensures ∙ c.in_ok-found.was) in
    rw (sound_lines image h found (sym c.read.ensures ∙ c.in_ok-header.was) walk, sym table) (then c.numbered.ensures (then c.bundles.ensures c.ascii.ensures))
