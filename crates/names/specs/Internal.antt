-- What serves proofs alone: how both queries go in one walk of each list. The promises of the private functions are made of this;
-- those of the public ones are in `Names`.
use Rattle.std.specs.Prelude.{ℕ, ◌+◌, Bool, not, ◌&&◌, List, length, eqb, Result, Ok, Err, Option, Some, None}
use Rattle.std.specs.Bool.{then_some}
use Rattle.std.specs.Option.{option_or}
use Rattle.refusal.specs.declared.Refusal.{Refusal}
use Rattle.checks.specs.Onward.{◌>>=◌}
use Rattle.tables.specs.Table.{Table, on_table}
use Rattle.tables.specs.Query.{first_of}
use Rattle.header.specs.Header.{header_of}
use Rattle.header.specs.declared.Header.{Header}
use Rattle.names.specs.Text.{same}
use Rattle.names.specs.Names.{text_of, resident_of, nonresident_of}
use Rattle.names.specs.declared.Name.{Name}
use Rattle.names.specs.declared.Progress.{Progress}

-- Whether a name is the one of a number. Which number the first name of its list has doesn't matter.
abbrev pub has_number : ℕ → ℕ → Name → Bool
has_number number first n = eqb n.number number

-- Whether a name has these bytes. The first name of a list, of the number `first`, isn't found by its bytes.
abbrev pub has_bytes : List ℕ → List ℕ → ℕ → Name → Bool
has_bytes image name first n = not (eqb n.number first) && same (text_of image n) name

-- What was found before, or else the name if it is wanted.
abbrev pub chosen : Option Name → Bool → Name → Option Name
chosen found takes n = option_or found (then_some takes n)

-- How far a search for the names that `takes` takes has come after a list of names.
abbrev pub onwards : Progress → (ℕ → Name → Bool) → List Name → Progress
onwards p takes ns = record { used = p.used + length ns; found = option_or p.found (first_of (takes (p.used + 1)) Some None ns) }

-- What a walk of a list answers.
abbrev pub walk_of : Table Name Refusal → Progress → (ℕ → Name → Bool) → Result Progress Refusal
walk_of t p takes = on_table t Err λ ns. Ok (onwards p takes ns)

-- What is found once the nonresident list is walked too, after what the resident one gave.
unfoldable pub found_after : List ℕ → Header → Progress → (ℕ → Name → Bool) → Result (Option Name) Refusal
found_after image h p takes = walk_of (nonresident_of image h p.used) p takes >>= λ all. Ok all.found

-- What is found in both lists.
unfoldable pub found_of : List ℕ → (ℕ → Name → Bool) → Result (Option Name) Refusal
found_of image takes =
    header_of image >>= λ h.
    walk_of (resident_of image h) (record { used = 0; found = None }) takes >>= λ p.
    found_after image h p takes
