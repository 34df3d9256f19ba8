-- A small module, and document 01's entry table for its examples P10 and P11.
use Rattle.std.specs.Prelude.{List, [], ◌∷◌, ◌++◌, ℕ, ◌+◌, ◌*◌, ◌/◌, length}
use Rattle.le.specs.Number.{bytes_of}
use Rattle.le.specs.Slice.{zeros}
use Rattle.lists.specs.Lists.{gathered}

-- Words as bytes, the low byte first.
abbrev pub words : List ℕ → List ℕ
words ws = gathered (bytes_of 2) ws

-- A module with these words as its segment table, four for each segment, and these bytes behind it. Its NE header, at 64, has
-- the segment count at 1C, the segment table's place, 64, at 22, and at 04 and 06 an entry table of so many bytes right behind
-- the segment table. The alignment shift is 0.
abbrev pub image_of : List ℕ → ℕ → List ℕ → List ℕ
image_of segments entry_bytes behind =
    let count = length segments / 4 in
    words ((0x5a4d ∷ zeros 29) ++ (64 ∷ 0 ∷ []))
    ++ words ((0x454e ∷ 0 ∷ (64 + 8 * count) ∷ entry_bytes ∷ zeros 10) ++ (count ∷ 0 ∷ 0 ∷ 64 ∷ zeros 14))
    ++ words segments
    ++ behind

-- "P10 entry table 01 01 01 10 00 02 00 01 FF 03 CD 3F 02 20 00 00, two segments", of which the header gives so many bytes.
abbrev pub p10 : ℕ → List ℕ
p10 entry_bytes =
    image_of (zeros 8) entry_bytes
    (0x01 ∷ 0x01 ∷ 0x01 ∷ 0x10 ∷ 0x00 ∷ 0x02 ∷ 0x00 ∷ 0x01 ∷ 0xff ∷ 0x03 ∷ 0xcd ∷ 0x3f ∷ 0x02 ∷ 0x20 ∷ 0x00 ∷ 0x00 ∷ [])
