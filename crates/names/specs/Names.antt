-- Document 01, "Names": the two lists with their numbers and places, and the two queries.
use Rattle.std.specs.Prelude.{ℕ, ◌+◌, cond, List, [], ◌∷◌, ◌++◌, length, take, drop, ltb, eqb, Result, Ok, Err}
use Rattle.le.specs.Number.{byte_at, word_at}
use Rattle.refusal.specs.declared.Refusal.{Refusal}
use Rattle.refusal.specs.declared.Refusal.TheVariants.{NoSuchNumber, ResidentNames, NonresidentNames, NoSuchName}
use Rattle.checks.specs.Checks.{◌⇒◌, decide}
use Rattle.tables.specs.Table.{Place, Step, Next, End, Stop, Table, Sound, on_table, table_of}
use Rattle.tables.specs.Query.{numbered, first_of}
use Rattle.header.specs.Header.{header_of}
use Rattle.checks.specs.Onward.{◌>>=◌}
use Rattle.header.specs.declared.Header.{Header}
use Rattle.names.specs.Text.{same}
use Rattle.names.specs.declared.Name.{Name}

-- "length byte, text, ordinal word": the name at a place.
abbrev pub name_at : List ℕ → Place → Name
name_at image p =
    let len = byte_at image p.at in
    record { number = p.used + 1; at = p.at + 1; len = len; ordinal = word_at image (p.at + 1 + len) }

-- The place behind a name.
abbrev pub behind : Name → Place
behind n = record { at = n.at + n.len + 2; used = n.number }

-- What stands at a place of a list of which nothing may lie behind `limit`: a name, or its end ("length 0 ends the list").
unfoldable pub step_of : List ℕ → ℕ → Refusal → Place → Step Name Refusal
step_of image limit why p =
    let n = name_at image p in
    decide Stop ((ltb limit (p.at + 1) ⇒ why) ∷ [])
    (cond (eqb n.len 0) End
    (decide Stop ((ltb limit (behind n).at ⇒ why) ∷ [])
    (Next (n ∷ []) (behind n))))

-- The list from a place on, where so many names come before it.
abbrev pub list_from : List ℕ → ℕ → Refusal → ℕ → ℕ → Table Name Refusal
list_from image limit why at used = table_of (step_of image limit why) why limit (record { at = at; used = used })

-- "The resident list ends inside the image". "Names are numbered from 1, resident list first".
abbrev pub resident_of : List ℕ → Header → Table Name Refusal
resident_of image h = list_from image (length image) ResidentNames h.resident 0

-- "20 nonresident bytes": the place behind which nothing of the nonresident list may lie.
abbrev pub nonresident_end : Header → ℕ
nonresident_end h = h.nonresident.at + h.nonresident.count

-- "the nonresident list inside its byte count. A list that starts with 0 is empty and sound, and so is a nonresident table of
-- size 0." So many names, the resident ones, come before it.
abbrev pub nonresident_of : List ℕ → Header → ℕ → Table Name Refusal
nonresident_of image h used =
    let t = h.nonresident in
    cond (eqb t.count 0) (Sound []) (list_from image (nonresident_end h) NonresidentNames t.at used)

-- "Names: both lists are checked, 16, then 8 or 17": the header's refusals, the lists', then what is asked of their names.
abbrev pub asked : List ℕ → (List Name → List Name → Result Name Refusal) → Result Name Refusal
asked image query =
    header_of image >>= λ h.
    on_table (resident_of image h) Err λ resident.
    on_table (nonresident_of image h (length resident)) Err λ nonresident.
    query resident nonresident

-- "8: number 0 or above the count". "first strings included".
unfoldable pub name_by_number : List ℕ → ℕ → Result Name Refusal
name_by_number image number = asked image λ resident nonresident. numbered number Ok (Err NoSuchNumber) (resident ++ nonresident)

-- The bytes of a name's text.
abbrev pub text_of : List ℕ → Name → List ℕ
text_of image n = take n.len (drop n.at image)

-- "takes the first match: resident from the second string on, then nonresident from the second on". "17: name not found".
unfoldable pub name_by_bytes : List ℕ → List ℕ → Result Name Refusal
name_by_bytes image name = asked image λ resident nonresident. first_of (λ n. same (text_of image n) name) Ok (Err NoSuchName) (drop 1 resident ++ drop 1 nonresident)
