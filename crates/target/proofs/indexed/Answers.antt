-- In a table that was checked, what is found is what the whole table says.
use Rattle.std.proofs.Common.{◌≡◌}
use Rattle.tables.specs.Table.{Sound}
use Rattle.entry.specs.Ordinal.{table_bytes, in_table, ordinal_in}
use Rattle.target.specs.Internal.{Checked}
use Rattle.target.proofs.indexed.Goals as goal

pub returns : goal.returns
unfolding ordinal_in
returns c =
    let a = c.args in
    let m = a.m.now in
    let checked : Checked m.image.now m.header = c.requires.checked in
    let is : c.find.result ≡ in_table (table_bytes m.image.now m.header) (Sound checked.0) a.number = rw c.table.ensures at c.find.ensures m.header.segments.count checked.0 checked.1 in
    rw checked.1 is
