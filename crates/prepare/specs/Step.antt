-- Document 01, "Step of demand 3. It is given a buffer of the allocation's length, one record with its own import answer, the
-- selectors, and the image's header and tables, read for that record's target only".
use Rattle.std.specs.Prelude.{◌≡◌, ℕ}
use mathlib.Core.List.{List, [], Perm}
use Rattle.lists.specs.Lists.{in_turn, each}
use Rattle.header.specs.Header.{header_of}
use Rattle.checks.specs.Onward.{on_result}
use Rattle.segment.specs.declared.Segment.{Segment}
use Rattle.fixup.specs.Record.{record_at, bytes_at}
use Rattle.fixup.specs.Action.{action_of}
use Rattle.site.specs.Site.{Site}
use Rattle.site.specs.Step as site
use Rattle.site.specs.Prepared.{unfixed}
use Rattle.prepare.specs.Prepare.{Request, stored_of, list_of, import_answer}

-- A record as a step is given it: its 8 bytes, and its own import answer.
pub record Given : Type 0 where
  pub bytes : List ℕ
  pub answer : ℕ

abbrev pub one_of : List ℕ → ℕ → Given
one_of bytes answer = record { bytes = bytes; answer = answer }

-- "An OS fixup, an unknown type or an unresolved target changes nothing." With an unsound header no target resolves.
unfoldable pub step_of : List ℕ → List ℕ → Given → List ℕ → List ℕ
step_of image selectors g buffer =
    on_result (header_of image) (λ why. buffer) λ h.
    site.step_of (action_of image h selectors g.answer (record_at g.bytes 0)) buffer

-- The record's own sites: those that the step writes in a buffer.
unfoldable pub visited_of : List ℕ → List ℕ → Given → List ℕ → List Site
visited_of image selectors g buffer =
    on_result (header_of image) (λ why. []) λ h.
    site.visited (action_of image h selectors g.answer (record_at g.bytes 0)) buffer

-- All records of a segment, each with its own answer, in file order.
abbrev pub given_in : Request → Segment → ℕ → Given
given_in q s i = one_of (bytes_at (list_of q s) i) (import_answer q i)

abbrev pub given_of : Request → Segment → List Given
given_of q s = each s.records (given_in q s)

-- "Carry out all its records by document 01's step, one at a time [...]. Each gets the buffer that the last one left".
abbrev pub steps_of : Request → List Given → List ℕ → List ℕ
steps_of q records buffer = in_turn (step_of q.image q.selectors) records buffer

-- "For every order of the whole list, the buffer at the end is, byte for byte, what preparing put in the output up to the
-- allocation". "each once, each with its own import answer"; "Start from its stored bytes and zeros up to its allocation."
abbrev pub EveryOrder : Request → Segment → List ℕ → Type 0
EveryOrder q s bytes = (records : List Given) → Perm (given_of q s) records → steps_of q records (unfixed (stored_of q s) s.allocation) ≡ bytes
