-- Document 01, "Step of demand 3", once the record's target is resolved.
use Rattle.std.specs.Prelude.{ℕ, zero, suc, cond, List, [], ◌∷◌, length, ltb, Result, Ok, Err, Option, Some, None}
use Rattle.le.specs.Number.{word_at}
use Rattle.site.specs.Site.{Site, site_of, end_of, put}
use Rattle.site.specs.Walk.{is_last}
use Rattle.site.specs.declared.Fixup.{Fixup}
use Rattle.refusal.specs.declared.Refusal.{Refusal}

-- "at each site: a span past the buffer ends the step; a chained record reads the next site from the buffer; then the bytes
-- are written as above, an additive record adding to what the buffer holds. It ends after one site if additive, else when
-- the next site is FFFFh or after as many sites as the buffer has bytes." `left` is how many more sites there may be.
unfoldable pub step_from : ℕ → Fixup → ℕ → List ℕ → List ℕ
step_from zero f at buffer = buffer
step_from (suc left) f at buffer =
    let next = word_at buffer at in
    let after = put buffer (site_of f at) buffer in
    let onward = step_from left f next after in
    let answer = cond (is_last f next) after onward in
    cond (ltb (length buffer) (end_of (site_of f at))) buffer answer

-- "An OS fixup, an unknown type or an unresolved target changes nothing. From the site word on [...]".
abbrev pub step_of : Result (Option Fixup) Refusal → List ℕ → List ℕ
step_of (Ok None) buffer = buffer
step_of (Err why) buffer = buffer
step_of (Ok (Some f)) buffer = step_from (length buffer) f f.site buffer

-- The sites that a step writes in a buffer: its record's own. The first is at the site word, and each other one where the
-- buffer said that it is when the step came to the one before.
unfoldable pub visited_from : ℕ → Fixup → ℕ → List ℕ → List Site
visited_from zero f at buffer = []
visited_from (suc left) f at buffer =
    let next = word_at buffer at in
    let onward = visited_from left f next (put buffer (site_of f at) buffer) in
    let others = cond (is_last f next) [] onward in
    cond (ltb (length buffer) (end_of (site_of f at))) [] (site_of f at ∷ others)

abbrev pub visited : Result (Option Fixup) Refusal → List ℕ → List Site
visited (Ok None) buffer = []
visited (Err why) buffer = []
visited (Ok (Some f)) buffer = visited_from (length buffer) f f.site buffer
