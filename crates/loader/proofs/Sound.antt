-- The entry table of a segment that passed the checks is sound, and then it is a list of bundles.
-- Assumes nothing.
use Rattle.std.proofs.Common.{◌≡◌, true, List, ℕ, refl}
use Rattle.tables.specs.Table.{Sound, Unsound}
use Rattle.header.specs.declared.Header.{Header}
use Rattle.segment.specs.declared.Segment.{Segment}
use Rattle.entry.specs.Table.{EntryTable, table_of, is_sound}
use Rattle.entry.specs.Ordinal.{table_bytes}
use Rattle.checks.proofs.Impossible.{never}
use Rattle.target.specs.Internal.{Checked}
use Rattle.loader.specs.Fits.{Fits}

pub checked : (image : List ℕ) (h : Header) (s : Segment) (answers : List ℕ) → Fits image h s answers → Checked image h
checked image h s answers fits = go (table_of (table_bytes image h) h.segments.count) refl fits.entries
  where
    go : (t : EntryTable) → table_of (table_bytes image h) h.segments.count ≡ t → is_sound t ≡ true → Checked image h
    go (Sound bundles) is sound = (bundles, is)
    go (Unsound why) is sound = never cc
