-- Document 01: the listing.
use Rattle.std.specs.Prelude.{cond, List, [], ◌++◌, ℕ, zero, suc, ◌+◌, ltb, length, Result, Ok, Err}
use Rattle.refusal.specs.declared.Refusal.{Refusal}
use Rattle.refusal.specs.Number.{number_of}
use Rattle.header.specs.Header.{header_of}
use Rattle.checks.specs.Onward.{on_result}
use Rattle.header.specs.declared.Header.{Header}
use Rattle.bundle.specs.declared.Entry.{Entry}
use Rattle.tables.specs.Table.{Sound, Unsound}
use Rattle.entry.specs.Table.{EntryTable, table_of, ordinals_in}
use Rattle.entry.specs.Ordinal.{table_bytes, in_table}
use Rattle.listing.specs.Text.{ascii, decimal_of, hex_of}

-- A word and a number.
abbrev pub number_line : List ℕ → ℕ → List ℕ
number_line word n = word ++ (decimal_of n ++ ascii "\n")

-- "An image that a header or entry table check refuses gives one line, `refused 12` for example."
abbrev pub refused_of : Refusal → List ℕ
refused_of why = number_line (ascii "refused ") (number_of why)

-- "the first number counts null ordinals too."
abbrev pub count_of : ℕ → List ℕ
count_of ordinals = number_line (ascii "ordinals ") ordinals

-- "Ordinal and segment are decimal; offset and flag are four and two uppercase hex digits."
unfoldable pub line_of : ℕ → Entry → List ℕ
line_of number e =
    (decimal_of number ++ ascii " ")
    ++ ((decimal_of e.segment ++ ascii ":")
    ++ ((hex_of 4 e.offset ++ ascii " ")
    ++ (hex_of 2 e.flag ++ ascii "\n")))

-- An ordinal that stands for nothing has no line.
abbrev pub answer_line : ℕ → Result Entry Refusal → List ℕ
answer_line number (Ok e) = line_of number e
answer_line number (Err why) = []

-- The lines of `count` ordinals from `number` on.
unfoldable pub lines_from : ℕ → ℕ → (ℕ → Result Entry Refusal) → List ℕ
lines_from zero number answer = []
lines_from (suc count) number answer = answer_line number (answer number) ++ lines_from count (number + 1) answer

-- The listing of a table of these bytes.
abbrev pub table_listing : List ℕ → EntryTable → List ℕ
table_listing table (Sound bs) = count_of (ordinals_in bs) ++ (lines_from (ordinals_in bs) 1 (in_table table (Sound bs)) ++ ascii "end\n")
table_listing table (Unsound why) = refused_of why

-- The listing of an image with this header.
unfoldable pub entries_of : List ℕ → Header → List ℕ
entries_of image h =
    let table = table_bytes image h in
    table_listing table (table_of table h.segments.count)

-- The lines of an image of any size.
unfoldable pub lines_of : List ℕ → List ℕ
lines_of image = on_result (header_of image) refused_of λ h. entries_of image h

-- "The listing program reads an image of at most 65,536 bytes (else the line `too long`)".
unfoldable pub listing_of : List ℕ → List ℕ
listing_of image = cond (ltb 65536 (length image)) (ascii "too long\n") (lines_of image)

-- No listing is longer: an entry takes 3 bytes of the table at least and its line at most 20, so 7 bytes for each byte of the
-- image are enough, and the first line and the last have at most 19 together.
abbrev pub most : ℕ
most = 458771
