-- The examples hold: both sides compute to the same.
-- Assumes nothing.
use mathlib.Core.Path.{refl}
use Rattle.le.specs.Number.{number}
use Rattle.lists.specs.Lists.{All}
use Rattle.header.specs.Header.{header_of, header_checks, tables_of, leaves, lacks}
use Rattle.segment.specs.Segment.{full_of, stored_of, segment_at, segment_checks, record_of}
use Rattle.bundle.specs.Bundle.{kind_of, unsound_from, bundle_at, bundle_checks, step_of}
use Rattle.tables.specs.Table as tables
use Rattle.entry.specs.Table.{table_of, slot_in}
use Rattle.entry.specs.Ordinal.{ordinal_in, ordinal_of}
use Rattle.imports.specs.Module.{string_at}
use Rattle.fixup.specs.Record.{record_at, typed_of}
use Rattle.fixup.specs.Target.{internal_target, target_of}
use Rattle.fixup.specs.Action.{action_of}
use Rattle.site.specs.Site.{written}
use Rattle.site.specs.Walk.{follow_from, walk_from}
use Rattle.prepare.specs.Prepare.{size_checks, prepare_of}
use Rattle.prepare.specs.Examples.{Holds, examples}

pub hold : All Holds examples
unfolding number header_of header_checks tables_of leaves lacks full_of stored_of segment_at segment_checks record_of kind_of unsound_from bundle_at bundle_checks step_of tables.table_from tables.table_of table_of slot_in ordinal_in ordinal_of string_at record_at typed_of internal_target target_of action_of written follow_from walk_from size_checks prepare_of
hold = (refl, (refl, (refl, (refl, (refl, (refl, (refl, (refl, (refl, (refl, (refl, (refl, (refl, (refl, (refl, (refl, (refl, ((λ number. refl), ((λ number. refl), (refl, tt))))))))))))))))))))
