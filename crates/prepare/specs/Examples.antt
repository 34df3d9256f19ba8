-- Document 01's examples P1 to P12, as requests with what is answered.
use Rattle.std.specs.Prelude.{◌≡◌, List, [], ◌∷◌, ◌++◌, ℕ, ◌+◌, length}
use Rattle.le.specs.Slice.{zeros}
use Rattle.lists.specs.Lists.{gathered}
use Rattle.bundle.specs.Values as ordinals
use Rattle.entry.specs.Ordinal.{ordinal_of}
use Rattle.entry.specs.Examples.{words, image_of, p10}
use Rattle.prepare.specs.Prepare.{Request, prepare_of, answer_of, values_of, output_after}

-- A request to prepare the one segment of a module. Its selector is 2000h.
abbrev pub request : List ℕ → ℕ → ℕ → Request
request image size records =
    record { image = image; number = 1; selectors = 0x2000 ∷ []; answers = zeros records; output = size; marks = size }

-- A segment with these stored bytes and records of four words each; "allocation the stored length". Its stored bytes stand
-- behind the segment table, at 136.
abbrev pub segment : List ℕ → List (List ℕ) → Request
segment stored records =
    let size = length stored in
    request
    (image_of (136 ∷ size ∷ 0x0100 ∷ size ∷ []) 0 (stored ++ words (length records ∷ gathered (λ r. r) records)))
    size
    (length records)

-- Types.
abbrev pub low_byte : ℕ
low_byte = 0

abbrev pub selector : ℕ
selector = 2

abbrev pub far : ℕ
far = 3

abbrev pub offset : ℕ
offset = 5

-- "Internal target offset 1234h [...] unless said": a chained record, and an additive one, at a site.
abbrev pub chain : ℕ → ℕ → List ℕ
chain type site = type ∷ site ∷ 1 ∷ 0x1234 ∷ []

abbrev pub additive : ℕ → ℕ → ℕ → List ℕ
additive type site target = (0x0400 + type) ∷ site ∷ 1 ∷ target ∷ []

-- What is asked, and the numbers of the answer; for a prepared segment its bytes behind them. An ordinal is asked for by its
-- number, or each one is.
pub data Example : Type 0 where
  prepare : Request → List ℕ → Example
  ordinal : List ℕ → ℕ → List ℕ → Example
  each_ordinal : List ℕ → List ℕ → Example

abbrev pub Holds : Example → Type 0
Holds (prepare q answer) = values_of (answer_of (prepare_of q)) ++ output_after (prepare_of q) [] ≡ answer
Holds (ordinal image number answer) = ordinals.values_of (ordinal_of image number) ≡ answer
Holds (each_ordinal image answer) = (number : ℕ) → ordinals.values_of (ordinal_of image number) ≡ answer

abbrev pub sites : ℕ → List ℕ → List ℕ
sites count bytes = 0 ∷ 0 ∷ count ∷ bytes

abbrev pub refused : ℕ → ℕ → List ℕ
refused why record' = why ∷ record' ∷ 0 ∷ []

-- The stored bytes of P1 to P5, and of P7 and P8.
abbrev pub p1 : List ℕ
p1 = 0x00 ∷ 0x00 ∷ 0x06 ∷ 0x00 ∷ 0xaa ∷ 0xbb ∷ 0xff ∷ 0xff ∷ []

abbrev pub p7 : List ℕ
p7 = 0xff ∷ 0xff ∷ 0x55 ∷ []

abbrev pub examples : List Example
examples =
    -- "P1 stored 00 00 06 00 AA BB FF FF, offset chain at 2: 00 00 34 12 AA BB 34 12, 2 sites."
    prepare (segment p1 (chain offset 2 ∷ [])) (sites 2 (0x00 ∷ 0x00 ∷ 0x34 ∷ 0x12 ∷ 0xaa ∷ 0xbb ∷ 0x34 ∷ 0x12 ∷ []))
    -- "P2 the same with a far pointer at 2: 24 (6+4 passes 8)."
    ∷ prepare (segment p1 (chain far 2 ∷ [])) (refused 24 1)
    -- "P3 the same bytes (P4, P5 too), additive offset at 2: word 123Ah, 1 site."
    ∷ prepare (segment p1 (additive offset 2 0x1234 ∷ [])) (sites 1 (0x00 ∷ 0x00 ∷ 0x3a ∷ 0x12 ∷ 0xaa ∷ 0xbb ∷ 0xff ∷ 0xff ∷ []))
    -- "P4 additive offset at 6, target 2: 01 00 there."
    ∷ prepare (segment p1 (additive offset 6 2 ∷ [])) (sites 1 (0x00 ∷ 0x00 ∷ 0x06 ∷ 0x00 ∷ 0xaa ∷ 0xbb ∷ 0x01 ∷ 0x00 ∷ []))
    -- "P5 additive offset at 2, then additive selector at 3: 25, record 2. At 4 instead: accepted."
    ∷ prepare (segment p1 (additive offset 2 0x1234 ∷ additive selector 3 0x1234 ∷ [])) (refused 25 2)
    ∷ prepare (segment p1 (additive offset 2 0x1234 ∷ additive selector 4 0x1234 ∷ [])) (sites 2 (0x00 ∷ 0x00 ∷ 0x3a ∷ 0x12 ∷ 0x00 ∷ 0x20 ∷ 0xff ∷ 0xff ∷ []))
    -- "P6 stored 02 00 00 00, offset chain at 0: 25, a cycle."
    ∷ prepare (segment (0x02 ∷ 0x00 ∷ 0x00 ∷ 0x00 ∷ []) (chain offset 0 ∷ [])) (refused 25 1)
    -- "P7 stored FF FF 55, low byte chain at 0: 34 FF 55."
    ∷ prepare (segment p7 (chain low_byte 0 ∷ [])) (sites 1 (0x34 ∷ 0xff ∷ 0x55 ∷ []))
    -- "P8 the same bytes at 2: additive gives 89h; chained gives 24."
    ∷ prepare (segment p7 (additive low_byte 2 0x1234 ∷ [])) (sites 1 (0xff ∷ 0xff ∷ 0x89 ∷ []))
    ∷ prepare (segment p7 (chain low_byte 2 ∷ [])) (refused 24 1)
    -- "P9 stored FE FF 00 00, additive far at 0, target 2000h:0003h: 01 00 00 20."
    ∷ prepare (segment (0xfe ∷ 0xff ∷ 0x00 ∷ 0x00 ∷ []) (additive far 0 3 ∷ [])) (sites 1 (0x01 ∷ 0x00 ∷ 0x00 ∷ 0x20 ∷ []))
    -- "P10 [...]: ordinal 1 is 1:0010h, 4 is 2:0020h; 0, 2, 3, 5 give 15."
    ∷ ordinal (p10 16) 1 (0 ∷ 1 ∷ 0x0010 ∷ 0x01 ∷ [])
    ∷ ordinal (p10 16) 4 (0 ∷ 2 ∷ 0x0020 ∷ 0x03 ∷ [])
    ∷ ordinal (p10 16) 0 (15 ∷ 0 ∷ 0 ∷ 0 ∷ [])
    ∷ ordinal (p10 16) 2 (15 ∷ 0 ∷ 0 ∷ 0 ∷ [])
    ∷ ordinal (p10 16) 3 (15 ∷ 0 ∷ 0 ∷ 0 ∷ [])
    ∷ ordinal (p10 16) 5 (15 ∷ 0 ∷ 0 ∷ 0 ∷ [])
    -- "P11 the same with byte count 15: 12. With count 0: empty, every ordinal 15."
    ∷ each_ordinal (p10 15) (12 ∷ 0 ∷ 0 ∷ 0 ∷ [])
    ∷ each_ordinal (p10 0) (15 ∷ 0 ∷ 0 ∷ 0 ∷ [])
    -- "P12 no records, sector 0, allocation 3: 00 00 00."
    ∷ prepare (request (image_of (0 ∷ 0 ∷ 0 ∷ 3 ∷ []) 0 []) 3 0) (sites 0 (0x00 ∷ 0x00 ∷ 0x00 ∷ []))
    ∷ []
