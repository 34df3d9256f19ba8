-- Demand 1: what a refused request gets.
use Rattle.std.specs.Prelude.{◌≡◌, ◌⊎◌, true, List, ℕ, suc, ◌-◌, ◌<◌, length, Ok, Err, Some}
use Rattle.le.specs.Slice.{zeros}
use Rattle.refusal.specs.Number.{Between}
use Rattle.refusal.specs.declared.Refusal.{Refusal}
use Rattle.refusal.specs.declared.Refusal.TheVariants.{NoSuchNumber, SelectorsShort, AnswersShort, OutputShort, MarksShort}
use Rattle.header.specs.Header.{header_of, lacks}
use Rattle.header.specs.declared.Header.{Header}
use Rattle.segment.specs.Segment.{record_of}
use Rattle.segment.specs.declared.Segment.{Segment}
use Rattle.tables.specs.Table as tables
use Rattle.bundle.specs.declared.Bundle.{Bundle}
use Rattle.fixup.specs.Action.{RefusedAs}
use Rattle.site.specs.BadSite.{BadSite}
use Rattle.site.specs.declared.Fixup.{Fixup}
use Rattle.prepare.specs.Prepare.{Request, prepare_of, entries_of, stored_of, record_in, action_in, output_after, marks_after}
use Rattle.prepare.specs.Sound.{Numbered, Found, Ready, Sound}

-- "21: selectors under the segment count, import answers under the record count, output under the allocation, or marks under
-- the stored length".
pub data Short (q : Request) (h : Header) (s : Segment) : Refusal → Type 0 where
  selectors_short : length q.selectors < h.segments.count → Short q h s SelectorsShort
  answers_short : length q.answers < s.records → Short q h s AnswersShort
  output_short : q.output < s.allocation → Short q h s OutputShort
  marks_short : q.marks < s.stored → Short q h s MarksShort

-- Why a request is refused before its records are looked at. "Each call does 1 to 7 by number." "Preparing: 8, the entry table's
-- 12 to 14, then 10, 11, 9, 21": each where those before it are passed.
pub data Early (q : Request) : Refusal → Type 0 where
  by_header : {why : Refusal} → header_of q.image ≡ Err why → Early q why
  by_number : (h : Header) → header_of q.image ≡ Ok h → lacks h.segments.count q.number ≡ true → Early q NoSuchNumber
  by_entries : {why : Refusal} (h : Header) → Numbered q h → entries_of q h ≡ tables.Unsound why → Early q why
  by_segment : {why : Refusal} (h : Header) (bundles : List Bundle) → Numbered q h → entries_of q h ≡ tables.Sound bundles → record_of q.image h (q.number - 1) ≡ Err why → Early q why
  by_size : {why : Refusal} (h : Header) (s : Segment) → Found q h s → Short q h s why → Early q why

-- A segment with the first few of its records alone.
abbrev pub first_records : ℕ → Segment → Segment
first_records count s = record { start = s.start; stored = s.stored; flags = s.flags; allocation = s.allocation; records = count; list = s.list }

-- The bad record, by its index from 0. "then records in file order": those before it are sound, and with it they are not. "22, 23
-- [...], and at each site 24, 25": it is refused by itself, or else by its first bad site.
pub record BadRecord (q : Request) (h : Header) (s : Segment) (index : ℕ) (why : Refusal) : Type 0 where
  pub listed : index < s.records
  pub before : Sound q h (first_records index s)
  pub with_it : Sound q h (first_records (suc index) s) → ⊥
  pub because : RefusedAs q.image h (record_in q s index) why ⊎ ((f : Fixup) × (action_in q h s index ≡ Ok (Some f)) × BadSite (stored_of q s) before.sites f why)

-- "Beside it a refusal gives at most the bad record's place in its list": "22 to 26 [...] also give its number from 1", the others none.
pub data Beside (q : Request) (why : Refusal) : ℕ → Type 0 where
  nothing : Between 1 21 why → Early q why → Beside q why 0
  its_number : {index : ℕ} (h : Header) (s : Segment) → Between 22 26 why → Ready q h s → BadRecord q h s index why → Beside q why (suc index)

pub record Rejected (q : Request) (why : Refusal) (number : ℕ) : Type 0 where
  -- "one refusal number from our list, chosen by a fixed order. Beside it a refusal gives at most the bad record's place in its
  -- list".
  pub beside : Beside q why number
  -- "the output buffer is as it came, and the mark buffer, where lent, is all zeros."
  pub output : (before : List ℕ) → output_after (prepare_of q) before ≡ before
  pub marks : (before : List ℕ) → marks_after (prepare_of q) before ≡ zeros (length before)
