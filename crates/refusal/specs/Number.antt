-- Document 01, "Refusal numbers and their order": the number of each refusal.
use Rattle.std.specs.Prelude.{ℕ, ◌≤◌}
use Rattle.refusal.specs.declared.Refusal.{Refusal}
use Rattle.refusal.specs.declared.Refusal.TheVariants.{ImageShort, ImageLong, NoMz, NePlace, NoNe, Shift, SegmentTable, ModuleTable, EntryTable, NonresidentTable, NoSuchNumber, SegmentOutside, Iterated, AllocationShort, EntryTableEnds, EntryUnsound, OrdinalsOver, NoSuchOrdinal, ResidentNames, NonresidentNames, ImportedString, NoSuchName, ResourceTable, ResourceShift, NoSuchResource, ResourceOutside, SelectorsShort, AnswersShort, OutputShort, MarksShort, FixupType, TargetSegment, TargetModule, TargetOrdinal, TargetString, SpanOutside, SpanTaken, SitesOver}

abbrev pub number_of : Refusal → ℕ
-- "image under 64 bytes"
number_of ImageShort = 1
-- "image over 16,777,216"
number_of ImageLong = 2
-- "no "MZ""
number_of NoMz = 3
-- "NE header's place"
number_of NePlace = 4
-- "no "NE""
number_of NoNe = 5
-- "alignment shift over 15"
number_of Shift = 6
-- "segment, module, entry or nonresident table leaves the image"
number_of SegmentTable = 7
number_of ModuleTable = 7
number_of EntryTable = 7
number_of NonresidentTable = 7
-- "number 0 or above the count"
number_of NoSuchNumber = 8
-- "stored bytes or record list leave the image; records with sector 0"
number_of SegmentOutside = 9
-- "iterated"
number_of Iterated = 10
-- "allocation under stored length"
number_of AllocationShort = 11
-- "entry table ends inside a bundle or has no end byte"
number_of EntryTableEnds = 12
-- "entry's segment not in the table, or no CDh 3Fh"
number_of EntryUnsound = 13
-- "over 65,535 ordinals"
number_of OrdinalsOver = 14
-- "ordinal not covered, or null"
number_of NoSuchOrdinal = 15
-- "unsound name list or string"
number_of ResidentNames = 16
number_of NonresidentNames = 16
number_of ImportedString = 16
-- "name not found"
number_of NoSuchName = 17
-- "resource table leaves the image, or its shift is over 15"
number_of ResourceTable = 18
number_of ResourceShift = 18
-- "resource not found"
number_of NoSuchResource = 19
-- "found resource's data leaves the image"
number_of ResourceOutside = 20
-- "selectors under the segment count, import answers under the record count, output under the allocation, or marks under
-- the stored length"
number_of SelectorsShort = 21
number_of AnswersShort = 21
number_of OutputShort = 21
number_of MarksShort = 21
-- "fixup type not 0, 2, 3, 5"
number_of FixupType = 22
-- "fixup target doesn't resolve"
number_of TargetSegment = 23
number_of TargetModule = 23
number_of TargetOrdinal = 23
number_of TargetString = 23
-- "span outside the stored bytes"
number_of SpanOutside = 24
-- "span meets an earlier one"
number_of SpanTaken = 25
-- "over 65,536 sites followed"
number_of SitesOver = 26

-- That a refusal has one of the numbers from one to another.
abbrev pub Between : ℕ → ℕ → Refusal → Type 0
Between low high why = (low ≤ number_of why) × (number_of why ≤ high)
