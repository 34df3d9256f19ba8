-- What an accepted resource says about its data: all that a reader of them needs.
use Rattle.std.specs.Prelude.{ℕ, ◌+◌, ◌≤◌, List, length}
use Rattle.resources.specs.declared.Resource.{Resource}

pub record InImage (image : List ℕ) (r : Resource) : Type 0 where
  -- "20: found resource's data leaves the image".
  pub inside : r.at + r.len ≤ length image
  -- "An image is at most 16,777,216 bytes".
  pub size : length image ≤ 16777216
