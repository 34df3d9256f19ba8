-- When preparing accepts, in words about the image and not about how it is gone over.
use Rattle.std.specs.Prelude.{◌≡◌, false, List, ℕ, ◌-◌, ◌≤◌, length, Ok}
use Rattle.lists.specs.Lists.{All, Pairs}
use Rattle.header.specs.Header.{header_of, lacks}
use Rattle.header.specs.declared.Header.{Header}
use Rattle.segment.specs.Segment.{record_of}
use Rattle.segment.specs.declared.Segment.{Segment}
use Rattle.tables.specs.Table as tables
use Rattle.bundle.specs.declared.Bundle.{Bundle}
use Rattle.fixup.specs.Action.{KnownType}
use Rattle.fixup.specs.Resolves.{Resolves}
use Rattle.site.specs.Site.{Site, Inside, Apart}
use Rattle.site.specs.Sound.{Sites}
use Rattle.prepare.specs.Prepare.{Request, Prepared, prepare_of, entries_of, stored_of, records_of, actions_of}

-- The header is accepted, and its segment table has the number.
pub record Numbered (q : Request) (h : Header) : Type 0 where
  pub header : header_of q.image ≡ Ok h
  pub number : lacks h.segments.count q.number ≡ false

-- The entry table is sound too, and the segment's record is accepted.
pub record Found (q : Request) (h : Header) (s : Segment) : Type 0 where
  pub numbered : Numbered q h
  pub bundles : List Bundle
  pub entries : entries_of q h ≡ tables.Sound bundles
  pub segment : record_of q.image h (q.number - 1) ≡ Ok s

-- The image's own checks, the segment's number and the sizes are passed, and these are the header and the segment.
pub record Ready (q : Request) (h : Header) (s : Segment) : Type 0 where
  pub found : Found q h s
  pub selectors : h.segments.count ≤ length q.selectors
  pub answers : s.records ≤ length q.answers
  pub output : s.allocation ≤ q.output
  pub marks : s.stored ≤ q.marks

-- Every type is known, every target resolves, every chain ends, and the spans lie inside the stored bytes with no byte
-- shared.
pub record Sound (q : Request) (h : Header) (s : Segment) : Type 0 where
  pub types : All KnownType (records_of q s)
  pub targets : All (Resolves q.image h) (records_of q s)
  pub sites : List Site
  pub chains : Sites (stored_of q s) (actions_of q h s) sites
  pub inside : All (Inside (stored_of q s)) sites
  pub apart : Pairs Apart sites

-- That preparing accepts, with some outcome.
abbrev pub Accepts : Request → Type 0
Accepts q = (sites : ℕ) × (bytes : List ℕ) × (marks : List ℕ) × (prepare_of q ≡ Prepared sites bytes marks)
