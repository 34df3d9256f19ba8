-- Document 01, "Segment record": one record of the segment table.
use Rattle.std.specs.Prelude.{ℕ, ◌+◌, ◌*◌, ◌-◌, ◌/◌, ◌%◌, Bool, cond, ◌&&◌, List, [], ◌∷◌, length, ltb, eqb, Result, Ok, Err}
use Rattle.le.specs.Number.{word_at}
use Rattle.refusal.specs.declared.Refusal.{Refusal}
use Rattle.refusal.specs.declared.Refusal.TheVariants.{NoSuchNumber, SegmentOutside, Iterated, AllocationShort}
use Rattle.checks.specs.Checks.{Check, ◌⇒◌, decide}
use Rattle.header.specs.Header.{header_of, lacks}
use Rattle.checks.specs.Onward.{◌>>=◌}
use Rattle.header.specs.declared.Header.{Header}
use Rattle.segment.specs.declared.Segment.{Segment}

-- "Segment record, 8 bytes: sector, length, flags, allocation." The record of an index, counted from 0.
abbrev pub record_place : Header → ℕ → ℕ
record_place h index = h.segments.at + 8 * index

abbrev pub sector_of : List ℕ → Header → ℕ → ℕ
sector_of image h index = word_at image (record_place h index)

-- A length or an allocation of 0 is 65,536.
unfoldable pub full_of : ℕ → ℕ
full_of w = cond (eqb w 0) 65536 w

-- "Sector 0: no stored bytes, whatever the length says. Otherwise length 0 is 65,536."
unfoldable pub stored_of : ℕ → ℕ → ℕ
stored_of sector len = cond (eqb sector 0) 0 (full_of len)

-- "Flags: 0008h iterated, 0100h records follow."
abbrev pub iterated : ℕ → Bool
iterated flags = eqb (flags / 0x8 % 2) 1

abbrev pub records_follow : ℕ → Bool
records_follow flags = eqb (flags / 0x100 % 2) 1

-- What the record says. "Start = sector times 2^shift." "The record list starts inside the image, right after the stored
-- bytes: a count word, then 8 bytes each."
unfoldable pub segment_at : List ℕ → Header → ℕ → Segment
segment_at image h index =
    let at = record_place h index in
    let start = sector_of image h index * h.unit in
    let stored = stored_of (sector_of image h index) (word_at image (at + 2)) in
    let flags = word_at image (at + 4) in
    record {
      start = start;
      stored = stored;
      flags = flags;
      allocation = full_of (word_at image (at + 6));
      records = cond (records_follow flags) (word_at image (start + stored)) 0;
      list = cond (records_follow flags) (start + stored + 2) 0;
    }

-- "Segment: 8, 10, 11, 9." These are 10, 11 and 9 of a segment whose record has the sector: "stored bytes or record list
-- leave the image; records with sector 0".
unfoldable pub segment_checks : ℕ → ℕ → Segment → List (Check Refusal)
segment_checks len sector s =
    let follow = records_follow s.flags in
    (iterated s.flags ⇒ Iterated)
    ∷ (ltb s.allocation s.stored ⇒ AllocationShort)
    ∷ (ltb len (s.start + s.stored) ⇒ SegmentOutside)
    ∷ (follow && eqb sector 0 ⇒ SegmentOutside)
    ∷ (follow && ltb len (s.start + s.stored + 2) ⇒ SegmentOutside)
    ∷ (follow && ltb len (s.list + 8 * s.records) ⇒ SegmentOutside)
    ∷ []

-- The segment of an index, once its number is known good.
unfoldable pub record_of : List ℕ → Header → ℕ → Result Segment Refusal
record_of image h index =
    let s = segment_at image h index in
    decide Err (segment_checks (length image) (sector_of image h index) s) (Ok s)

-- What asking for a segment by its number answers: the header's refusals, 8, then the record's.
unfoldable pub segment_of : List ℕ → ℕ → Result Segment Refusal
segment_of image number =
    header_of image >>= λ h.
    decide Err ((lacks h.segments.count number ⇒ NoSuchNumber) ∷ []) (record_of image h (number - 1))
