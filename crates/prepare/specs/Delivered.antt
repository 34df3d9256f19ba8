-- Demands 2 and 3: what an accepted segment is.
use Rattle.std.specs.Prelude.{◌≡◌, List, ℕ, ◌+◌, ◌≤◌, ◌<◌, length}
use Rattle.le.specs.Number.{byte_at}
use Rattle.lists.specs.Lists.{All}
use Rattle.header.specs.declared.Header.{Header}
use Rattle.segment.specs.declared.Segment.{Segment}
use Rattle.site.specs.Exact.{Exact, Marked, Stands}
use Rattle.site.specs.Sound.{in_chains, singles}
use Rattle.prepare.specs.Prepare.{Request, Prepared, stored_of, output_after}
use Rattle.prepare.specs.Sound.{Sound}
use Rattle.prepare.specs.Step.{EveryOrder}

-- What a buffer holds in which a segment was prepared: the segment, and behind it what was there before.
pub record Holds (allocation : ℕ) (bytes before after : List ℕ) : Type 0 where
  pub size : length after ≡ length before
  pub segment : (place : ℕ) → place < allocation → byte_at after place ≡ byte_at bytes place
  pub behind : (place : ℕ) → allocation ≤ place → byte_at after place ≡ byte_at before place

pub record Delivered (q : Request) (h : Header) (s : Segment) (count : ℕ) (bytes marks : List ℕ) : Type 0 where
  pub sound : Sound q h s
  -- "its stored bytes, zeros up to its allocation, and at each fixup site exactly what the published New Executable tables, as
  -- settled in document 01, put there, and nothing else changed."
  pub exact : Exact (stored_of q s) s.allocation sound.sites bytes
  pub stands : All (λ x. Stands x.fixup.kind x.fixup.additive x.fixup (stored_of q s) x.at bytes) sound.sites
  -- "output past the allocation is unchanged".
  pub output : (before : List ℕ) → length before ≡ q.output → Holds s.allocation bytes before (output_after (Prepared count bytes marks) before)
  -- "a mark is 1 exactly at a byte of a span, else 0."
  pub marked : Marked q.marks sound.sites marks
  -- "The reported site count is the number of sites in that segment's chains as stored plus the number of its single additive
  -- sites. It is at most the number of stored bytes."
  pub sum : count ≡ in_chains sound.chains + singles sound.chains
  pub bound : count ≤ s.stored
  -- "Carry out all its records by document 01's step, one at a time". "For every order of the whole list, the buffer at the end
  -- is, byte for byte, what preparing put in the output up to the allocation, and these are the bytes of demand 2."
  pub order : EveryOrder q s bytes
