-- What an accepted segment says about bounds: all that a caller needs to know of it.
use Rattle.std.specs.Prelude.{ℕ, ◌+◌, ◌*◌, ◌≤◌, List, length}
use Rattle.segment.specs.declared.Segment.{Segment}

pub record InImage (image : List ℕ) (s : Segment) : Type 0 where
  -- The stored bytes lie in the image, and there are no more of them than are allocated.
  pub stored : s.start + s.stored ≤ length image
  pub allocation : s.stored ≤ s.allocation
  -- The records, 8 bytes each, lie in the image.
  pub records : s.list + 8 * s.records ≤ length image
