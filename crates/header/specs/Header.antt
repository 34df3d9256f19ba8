-- Document 01, "Header rules": the MZ header and the NE header.
use Rattle.std.specs.Prelude.{ℕ, ◌+◌, ◌*◌, ◌^◌, Bool, false, cond, not, ◌||◌, List, [], ◌∷◌, length, ltb, eqb, Result, Ok, Err}
use Rattle.le.specs.Number.{word_at, dword_at}
use Rattle.refusal.specs.declared.Refusal.{Refusal}
use Rattle.refusal.specs.declared.Refusal.TheVariants.{ImageShort, ImageLong, NoMz, NePlace, NoNe, Shift, SegmentTable, ModuleTable, EntryTable, NonresidentTable}
use Rattle.checks.specs.Checks.{Check, ◌⇒◌, decide}
use Rattle.header.specs.declared.Header.{Header}

-- "The dword at 3Ch places the NE header".
abbrev pub ne_place : List ℕ → ℕ
ne_place image = dword_at image 0x3c

-- The word at an offset of the NE header.
abbrev pub field_of : List ℕ → ℕ → ℕ → ℕ
field_of image ne offset = word_at image (ne + offset)

-- "NE offsets (hex): [...] 04 entry table, 06 its bytes, 1C segment count, 1E module count, 20 nonresident bytes, 22
-- segment table, 24 resource table, 26 resident names, 28 module references, 2A imported names, 2C nonresident names
-- (dword, from file start), 32 alignment shift. All other table places count from the NE header." A sector has 2^shift bytes.
unfoldable pub tables_of : List ℕ → ℕ → Header
tables_of image ne =
    record {
      ne = ne;
      unit = 2 ^ field_of image ne 0x32;
      segments = record { at = ne + field_of image ne 0x22; count = field_of image ne 0x1c };
      modules = record { at = ne + field_of image ne 0x28; count = field_of image ne 0x1e };
      entries = record { at = ne + field_of image ne 0x04; count = field_of image ne 0x06 };
      nonresident = record { at = dword_at image (ne + 0x2c); count = field_of image ne 0x20 };
      resident = ne + field_of image ne 0x26;
      imported = ne + field_of image ne 0x2a;
      resources = ne + field_of image ne 0x24;
    }

-- "A thing leaves the image exactly when its end lies past the image's end; [...] sized tables of size 0 excepted." "A
-- table of size 0 is empty and its place isn't looked at."
unfoldable pub leaves : ℕ → ℕ → ℕ → Bool
leaves len at size = cond (eqb size 0) false (ltb len (at + size))

-- "7: segment, module, entry or nonresident table leaves the image", each told apart. A segment record has 8 bytes, a
-- module reference 2; the other two are counted in bytes.
abbrev pub table_checks : ℕ → Header → List (Check Refusal)
table_checks len h =
    (leaves len h.segments.at (8 * h.segments.count) ⇒ SegmentTable)
    ∷ (leaves len h.modules.at (2 * h.modules.count) ⇒ ModuleTable)
    ∷ (leaves len h.entries.at h.entries.count ⇒ EntryTable)
    ∷ (leaves len h.nonresident.at h.nonresident.count ⇒ NonresidentTable)
    ∷ []

-- The refusals 5 to 7 of the NE header at a place: "no "NE"", "alignment shift over 15", then the tables. "NE" is 4Eh 45h, read
-- as a word.
abbrev pub ne_checks : List ℕ → ℕ → List (Check Refusal)
ne_checks image ne =
    (not (eqb (word_at image ne) 0x454e) ⇒ NoNe)
    ∷ (ltb 15 (field_of image ne 0x32) ⇒ Shift)
    ∷ table_checks (length image) (tables_of image ne)

-- The refusals 1 to 7 in their order. "MZ" is 4Dh 5Ah, read as a word.
unfoldable pub header_checks : List ℕ → List (Check Refusal)
header_checks image =
    let ne = ne_place image in
    let len = length image in
    (ltb len 64 ⇒ ImageShort)
    ∷ (ltb 16777216 len ⇒ ImageLong)
    ∷ (not (eqb (word_at image 0) 0x5a4d) ⇒ NoMz)
    ∷ (ltb ne 64 ⇒ NePlace)
    ∷ (ltb len (ne + 64) ⇒ NePlace)
    ∷ ne_checks image ne

-- What the header of an image answers: the first refusal, or where everything stands.
unfoldable pub header_of : List ℕ → Result Header Refusal
header_of image = decide Err (header_checks image) (Ok (tables_of image (ne_place image)))

-- "number 0 or above the count": whether a table of `count` elements lacks the one of a number.
unfoldable pub lacks : ℕ → ℕ → Bool
lacks count number = eqb number 0 || ltb count number
