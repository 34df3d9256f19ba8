-- What serves proofs alone: what the checks before the records answer. Their order stands in `prepare` (`on_ready`).
use Rattle.std.specs.Prelude.{ℕ, ◌-◌, List, [], ◌∷◌, Result, Ok, Err}
use Rattle.checks.specs.Checks.{◌⇒◌, decide}
use Rattle.refusal.specs.declared.Refusal.TheVariants.{NoSuchNumber}
use Rattle.header.specs.Header.{lacks}
use Rattle.header.specs.declared.Header.{Header}
use Rattle.segment.specs.Segment.{record_of}
use Rattle.segment.specs.declared.Segment.{Segment}
use Rattle.ready.specs.declared.Passed.{Passed}
use Rattle.refusal.specs.declared.Refusal.{Refusal}
use Rattle.tables.specs.Table.{on_table}
use Rattle.entry.specs.Table.{table_of}
use Rattle.entry.specs.Ordinal.{table_bytes}
use Rattle.prepare.specs.Prepare.{Request, request_of, on_ready, size_checks}

abbrev pub passed : Header → Segment → Result Passed Refusal
passed h s = Ok (record { header = h; segment = s })

unfoldable pub ready_of : Request → Result Passed Refusal
ready_of q = on_ready q Err passed

-- Its parts: the segment of a number once the header is known, and the sizes of what is lent. The sizes are those of a request,
-- whatever its image and number.
unfoldable pub found_of : List ℕ → Header → ℕ → Result Segment Refusal
found_of image h number =
    decide Err ((lacks h.segments.count number ⇒ NoSuchNumber) ∷ [])
    (on_table (table_of (table_bytes image h) h.segments.count) Err λ bundles. record_of image h (number - 1))

unfoldable pub sized_of : Header → Segment → List ℕ → List ℕ → ℕ → ℕ → Result Passed Refusal
sized_of h s selectors answers output marks = decide Err (size_checks (request_of [] 0 selectors answers output marks) h s) (passed h s)
