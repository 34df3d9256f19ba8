-- What filling a slice leaves in it.
use Rattle.std.specs.Prelude.{ℕ, min, List, ◌++◌, length, take, drop, replicate}

-- `src` over the front of `dst`, as many bytes as both have; the rest of `dst` as it was.
abbrev pub copied : List ℕ → List ℕ → List ℕ
copied src dst =
    let n = min (length src) (length dst) in
    take n src ++ drop n dst

-- A list of `n` zeros.
abbrev pub zeros : ℕ → List ℕ
zeros n = replicate n 0
