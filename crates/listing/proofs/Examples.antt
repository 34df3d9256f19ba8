-- The examples hold: both sides compute to the same.
-- Assumes nothing.
use mathlib.Core.Path.{refl}
use Rattle.le.specs.Number.{number}
use Rattle.header.specs.Header.{header_of, header_checks, tables_of, leaves, lacks}
use Rattle.bundle.specs.Bundle.{kind_of, unsound_from, bundle_at, bundle_checks, step_of}
use Rattle.tables.specs.Table as tables
use Rattle.entry.specs.Table.{table_of, slot_in, ordinals_in}
use Rattle.entry.specs.Ordinal.{ordinal_in}
use Rattle.listing.specs.Text.{digit_of, digits_of, decimal_width}
use Rattle.listing.specs.Listing.{line_of, lines_from, entries_of, lines_of, listing_of}
use Rattle.listing.specs.Examples.{Examples}

pub hold : Examples
unfolding number header_of header_checks tables_of leaves lacks kind_of unsound_from bundle_at bundle_checks step_of tables.table_from tables.table_of table_of slot_in ordinals_in ordinal_in digit_of digits_of decimal_width line_of lines_from entries_of lines_of listing_of
hold = (refl, refl, refl)
