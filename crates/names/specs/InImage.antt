-- What an accepted name says about its bounds.
use Rattle.std.specs.Prelude.{◌≡◌, ℕ, ◌+◌, ◌-◌, ◌≤◌, ◌<◌, List, length}
use Rattle.le.specs.Number.{byte_at}
use Rattle.names.specs.declared.Name.{Name}

pub record InImage (image : List ℕ) (n : Name) : Type 0 where
  -- "length 0 ends the list": no name is empty.
  pub some : 0 < n.len
  -- "length byte, text": the one stands before the other.
  pub length_byte : n.len ≡ byte_at image (n.at - 1)
  -- Its text lies in the image, and so does the ordinal word behind it.
  pub inside : n.at + n.len + 2 ≤ length image
  -- "An image is at most 16,777,216 bytes".
  pub size : length image ≤ 16777216
  -- There are fewer names than bytes in both lists.
  pub number : n.number ≤ 33554432
