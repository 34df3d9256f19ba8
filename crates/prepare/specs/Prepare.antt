-- Document 01, "Preparing: 8, the entry table's 12 to 14, then 10, 11, 9, 21, then records in file order".
use Rattle.std.specs.Prelude.{ℕ, ◌-◌, List, [], ◌∷◌, ◌++◌, ltb, length, get_or, take, drop, Result, Ok, Err, Option}
use Rattle.le.specs.Slice.{zeros}
use Rattle.lists.specs.Lists.{each}
use Rattle.checks.specs.Checks.{Check, ◌⇒◌, decide}
use Rattle.refusal.specs.Number.{number_of}
use Rattle.refusal.specs.declared.Refusal.{Refusal}
use Rattle.refusal.specs.declared.Refusal.TheVariants.{NoSuchNumber, SelectorsShort, AnswersShort, OutputShort, MarksShort}
use Rattle.header.specs.Header.{header_of, lacks}
use Rattle.checks.specs.Onward.{on_result}
use Rattle.header.specs.declared.Header.{Header}
use Rattle.segment.specs.Segment.{record_of}
use Rattle.segment.specs.declared.Segment.{Segment}
use Rattle.tables.specs.Table.{on_table}
use Rattle.entry.specs.Table.{EntryTable, table_of}
use Rattle.entry.specs.Ordinal.{table_bytes}
use Rattle.fixup.specs.Record.{record_at}
use Rattle.fixup.specs.Action.{action_of}
use Rattle.fixup.specs.declared.Record.{Record}
use Rattle.site.specs.Walk.{Walk, Walked, Stopped, walk_of}
use Rattle.site.specs.Prepared.{prepared, marked}
use Rattle.prepare.specs.declared.Rejection.{Rejection}
use Rattle.site.specs.declared.Fixup.{Fixup}

-- What preparing is given: the image, the segment's number, the selectors, the import answers, and how long the output and
-- the marks are.
pub record Request : Type 0 where
  pub image : List ℕ
  pub number : ℕ
  pub selectors : List ℕ
  pub answers : List ℕ
  pub output : ℕ
  pub marks : ℕ

abbrev pub request_of : List ℕ → ℕ → List ℕ → List ℕ → ℕ → ℕ → Request
request_of image number selectors answers output marks =
    record { image = image; number = number; selectors = selectors; answers = answers; output = output; marks = marks }

-- What it gives: the site count, the segment's bytes and the marks; or a refusal, with the number of its record or 0.
pub data Outcome : Type 0 where
  Prepared : ℕ → List ℕ → List ℕ → Outcome
  Refused : Refusal → ℕ → Outcome

-- The stored bytes of a segment.
abbrev pub stored_of : Request → Segment → List ℕ
stored_of q s = take s.stored (drop s.start q.image)

-- "The record list starts inside the image, right after the stored bytes": the image from the first record on.
abbrev pub list_of : Request → Segment → List ℕ
list_of q s = drop s.list q.image

-- The record of an index, from 0 on, and what it asks for. "import answers (a 32-bit number for each record [...])".
abbrev pub record_in : Request → Segment → ℕ → Record
record_in q s i = record_at (list_of q s) i

abbrev pub import_answer : Request → ℕ → ℕ
import_answer q i = get_or q.answers i 0

abbrev pub action_in : Request → Header → Segment → ℕ → Result (Option Fixup) Refusal
action_in q h s i = action_of q.image h q.selectors (import_answer q i) (record_in q s i)

-- All records in file order.
abbrev pub records_of : Request → Segment → List Record
records_of q s = each s.records (record_in q s)

abbrev pub actions_of : Request → Header → Segment → List (Result (Option Fixup) Refusal)
actions_of q h s = each s.records (action_in q h s)

-- "21: selectors under the segment count, import answers under the record count, output under the allocation, or marks under
-- the stored length".
unfoldable pub size_checks : Request → Header → Segment → List (Check Refusal)
size_checks q h s =
    (ltb (length q.selectors) h.segments.count ⇒ SelectorsShort)
    ∷ (ltb (length q.answers) s.records ⇒ AnswersShort)
    ∷ (ltb q.output s.allocation ⇒ OutputShort)
    ∷ (ltb q.marks s.stored ⇒ MarksShort)
    ∷ []

-- "22 to 26 [...] also give its number from 1", the others none.
abbrev pub refuse : Refusal → Outcome
refuse why = Refused why 0

-- "preparing its site count".
abbrev pub outcome_of : Request → Segment → Walk → Outcome
outcome_of q s (Walked sites) = Prepared (length sites) (prepared (stored_of q s) s.allocation sites) (marked q.marks sites)
outcome_of q s (Stopped why number) = Refused why number

-- The stored bytes and the records decide.
abbrev pub walked_of : Request → Header → Segment → Walk
walked_of q h s = walk_of (stored_of q s) (actions_of q h s)

-- The whole entry table, which is walked even where no record names an ordinal.
abbrev pub entries_of : Request → Header → EntryTable
entries_of q h = table_of (table_bytes q.image h) h.segments.count

-- The refusals 1 to 7, 8, 12 to 14, 10, 11, 9 and 21 in this order, or what follows of the header and the segment.
abbrev pub on_ready : {A : Type 0} → Request → (Refusal → A) → (Header → Segment → A) → A
on_ready q refuse go =
    on_result (header_of q.image) refuse λ h.
    decide refuse ((lacks h.segments.count q.number ⇒ NoSuchNumber) ∷ [])
    (on_table (entries_of q h) refuse λ bundles.
    on_result (record_of q.image h (q.number - 1)) refuse λ s.
    decide refuse (size_checks q h s) (go h s))

-- Then those of the records, or the prepared segment.
unfoldable pub prepare_of : Request → Outcome
prepare_of q = on_ready q refuse λ h s. outcome_of q s (walked_of q h s)

-- The answer of an outcome: the site count, or the refusal with its record.
abbrev pub answer_of : Outcome → Result ℕ Rejection
answer_of (Prepared sites bytes marks) = Ok sites
answer_of (Refused why number) = Err (record { why = why; number = number })

-- The numbers of an answer: the refusal, 0 for none, the record and the site count. "All values in a refusal are 0; 22 to
-- 26 [...] also give its number".
abbrev pub values_of : Result ℕ Rejection → List ℕ
values_of (Ok sites) = 0 ∷ 0 ∷ sites ∷ []
values_of (Err r) = number_of r.why ∷ r.number ∷ 0 ∷ []

-- The output, as it was before and as it is left. "Output stays unchanged"; "output past the allocation is unchanged".
abbrev pub output_after : Outcome → List ℕ → List ℕ
output_after (Prepared sites bytes marks) output = bytes ++ drop (length bytes) output
output_after (Refused why number) output = output

-- The marks. "marks become zero over their whole length".
abbrev pub marks_after : Outcome → List ℕ → List ℕ
marks_after (Prepared sites bytes marks) before = marks
marks_after (Refused why number) before = zeros (length before)
