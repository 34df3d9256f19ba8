-- What a sound string says about its text.
use Rattle.std.specs.Prelude.{ℕ, ◌+◌, ◌≤◌, ◌<◌, List, length}
use Rattle.imports.specs.declared.Text.{Text}

pub record InImage (image : List ℕ) (text : Text) : Type 0 where
  -- "A string that is empty or leaves the image is unsound."
  pub some : 0 < text.len
  pub inside : text.at + text.len ≤ length image
