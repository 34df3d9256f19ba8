-- Document 01: what a segment is in memory, and its marks, once its sites are known.
use Rattle.std.specs.Prelude.{ℕ, ◌-◌, List, ◌++◌, length, replicate}
use Rattle.std.proofs.lemmas.List.Edits.{sets}
use Rattle.le.specs.Slice.{zeros}
use Rattle.lists.specs.Lists.{in_turn}
use Rattle.site.specs.Site.{Site, width_of, put}

-- A segment before any fixup: "its stored bytes, zeros up to its allocation".
abbrev pub unfixed : List ℕ → ℕ → List ℕ
unfixed stored allocation = stored ++ zeros (allocation - length stored)

-- The segment with all its sites written. What is there before, to which an additive record adds, are the stored bytes.
abbrev pub prepared : List ℕ → ℕ → List Site → List ℕ
prepared stored allocation sites = in_turn (put stored) sites (unfixed stored allocation)

-- "a mark is 1 exactly at a byte of a span, else 0."
abbrev pub mark : Site → List ℕ → List ℕ
mark s marks = sets marks s.at (replicate (width_of s.fixup.kind s.fixup.additive) 1)

abbrev pub marked : ℕ → List Site → List ℕ
marked size sites = in_turn mark sites (zeros size)
