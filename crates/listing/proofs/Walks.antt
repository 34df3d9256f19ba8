-- What a walk that was done says about the listing of a table.
-- Assumes nothing.
use Rattle.std.specs.Prelude.{Ok, Err}
use mathlib.Core.Path.{◌≡◌, refl}
use mathlib.Core.Bool.{true}
use mathlib.Core.List.{List, ◌++◌}
use Prim.Native.Nat.{ℕ}
use Rattle.checks.proofs.Impossible.{never}
use Rattle.refusal.specs.declared.Refusal.{Refusal}
use Rattle.entry.specs.declared.Found.{Found}
use Rattle.tables.specs.Table.{Sound, Unsound}
use Rattle.entry.specs.Table.{EntryTable, table_of, ordinals_in, is_sound}
use Rattle.entry.specs.Internal.{walk_of}
use Rattle.listing.specs.Text.{ascii}
use Rattle.header.specs.declared.Header.{Header}
use Rattle.header.specs.Header.{header_of}
use Rattle.entry.specs.Ordinal.{table_bytes}
use Rattle.listing.specs.Listing.{refused_of, count_of, table_listing, entries_of, lines_of}
use Rattle.listing.specs.Internal.{table_lines}
use Rattle.listing.proofs.ByBundle.{by_bundle}

pub sound_when_walked : (t : EntryTable) (number : ℕ) (f : Found) → walk_of t number ≡ Ok f → is_sound t ≡ true
sound_when_walked (Sound bs) number f e = refl
sound_when_walked (Unsound why) number f e = never cc

pub unsound_listing : (table : List ℕ) (t : EntryTable) (number : ℕ) (why : Refusal) → walk_of t number ≡ Err why → table_listing table t ≡ refused_of why
unsound_listing table (Sound bs) number why e = never cc
unsound_listing table (Unsound other) number why e = let is : other ≡ why = cc in rw is

pub sound_listing : (table : List ℕ) (segments number : ℕ) (f : Found) → walk_of (table_of table segments) number ≡ Ok f → table_listing table (table_of table segments) ≡ count_of f.ordinals ++ (table_lines table (table_of table segments) ++ ascii "end\n")
sound_listing table segments number f e = go (table_of table segments) refl e
  where
    go : (t : EntryTable) → table_of table segments ≡ t → walk_of t number ≡ Ok f → table_listing table t ≡ count_of f.ordinals ++ (table_lines table t ++ ascii "end\n")
    go (Sound bs) q w =
        let count : ordinals_in bs ≡ f.ordinals = cc in
        rw (by_bundle table segments bs q, count)
    go (Unsound why) q w = never cc

pub sound_lines : (image : List ℕ) (h : Header) (f : Found) → header_of image ≡ Ok h → walk_of (table_of (table_bytes image h) h.segments.count) 0 ≡ Ok f → lines_of image ≡ count_of f.ordinals ++ (table_lines (table_bytes image h) (table_of (table_bytes image h) h.segments.count) ++ ascii "end\n")
unfolding lines_of entries_of
sound_lines image h f header walk = rw header (sound_listing (table_bytes image h) h.segments.count 0 f walk)
