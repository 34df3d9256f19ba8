-- What an accepted header says about bounds: all that a caller needs to know of it.
use Rattle.std.specs.Prelude.{ℕ, ◌+◌, ◌*◌, ◌≤◌, ◌<◌, List, length}
use Rattle.header.specs.declared.Header.{Header}

pub record Inside (image : List ℕ) (h : Header) : Type 0 where
  -- "An image is at most 16,777,216 bytes".
  pub size : length image ≤ 16777216
  -- "at least 64, with 64 bytes inside the image".
  pub ne_low : 64 ≤ h.ne
  pub ne_end : h.ne + 64 ≤ length image
  -- The shift is at most 15.
  pub unit : h.unit ≤ 32768
  -- A sized table that isn't empty lies in the image.
  pub segments : 0 < h.segments.count → h.segments.at + 8 * h.segments.count ≤ length image
  pub modules : 0 < h.modules.count → h.modules.at + 2 * h.modules.count ≤ length image
  pub entries : 0 < h.entries.count → h.entries.at + h.entries.count ≤ length image
  pub nonresident : 0 < h.nonresident.count → h.nonresident.at + h.nonresident.count ≤ length image
