-- What serves proofs alone: the bytes of the spans so far are marked, and a further span is claimed in the marks. `site` says what
-- document 01 means by it.
use Rattle.std.specs.Prelude.{ℕ, zero, suc, ◌+◌, Bool, false, cond, not, ◌||◌, List, ltb, eqb, length, replicate, Result, Ok, Err}
use Rattle.std.proofs.lemmas.List.Edits.{sets}
use Rattle.le.specs.Number.{byte_at}
use Rattle.refusal.specs.declared.Refusal.{Refusal}
use Rattle.refusal.specs.declared.Refusal.TheVariants.{SpanOutside, SpanTaken}

-- Whether one of `width` bytes from a place on is marked.
unfoldable pub taken : ℕ → List ℕ → ℕ → Bool
taken zero marks at = false
taken (suc width) marks at = not (eqb (byte_at marks at) 0) || taken width marks (suc at)

-- The marks with these bytes marked.
abbrev pub claimed : ℕ → List ℕ → ℕ → List ℕ
claimed width marks at = sets marks at (replicate width 1)

-- What claiming a span answers: "span outside", then "span meets an earlier one".
abbrev pub inside_of : List ℕ → ℕ → ℕ → Result Unit Refusal
inside_of marks at width = cond (taken width marks at) (Err SpanTaken) (Ok tt)

unfoldable pub claim_of : List ℕ → ℕ → ℕ → Result Unit Refusal
claim_of marks at width = cond (ltb (length marks) (at + width)) (Err SpanOutside) (inside_of marks at width)

-- The marks after that answer.
abbrev pub marks_after : Result Unit Refusal → List ℕ → ℕ → ℕ → List ℕ
marks_after (Ok tt) marks at width = claimed width marks at
marks_after (Err why) marks at width = marks
