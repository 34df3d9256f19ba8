-- Document 01: what an ordinal stands for.
use Rattle.std.specs.Prelude.{ℕ, List, take, drop, Result, Err}
use Rattle.header.specs.Header.{header_of}
use Rattle.checks.specs.Onward.{◌>>=◌}
use Rattle.header.specs.declared.Header.{Header}
use Rattle.bundle.specs.declared.Entry.{Entry}
use Rattle.refusal.specs.declared.Refusal.{Refusal}
use Rattle.bundle.specs.Bundle.{entry_of}
use Rattle.tables.specs.Table.{Sound, Unsound}
use Rattle.entry.specs.Table.{EntryTable, table_of, slot_in}

-- "04 entry table, 06 its bytes".
abbrev pub table_bytes : List ℕ → Header → List ℕ
table_bytes image h = take h.entries.count (drop h.entries.at image)

-- "the whole table is walked first [...], then 15".
abbrev pub in_table : List ℕ → EntryTable → ℕ → Result Entry Refusal
in_table table (Sound bs) number =
    let slot = slot_in bs number in
    entry_of slot.kind (drop slot.at table)
in_table table (Unsound why) number = Err why

-- The refusals 12 to 15, or what the ordinal stands for, once the header is known.
unfoldable pub ordinal_in : List ℕ → Header → ℕ → Result Entry Refusal
ordinal_in image h number =
    let table = table_bytes image h in
    in_table table (table_of table h.segments.count) number

-- What asking for an ordinal answers: the header's refusals, then the table's.
unfoldable pub ordinal_of : List ℕ → ℕ → Result Entry Refusal
ordinal_of image number = header_of image >>= λ h. ordinal_in image h number
