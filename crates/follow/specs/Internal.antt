-- What serves proofs alone: one pass over the sites of a record, on the marks of the earlier ones and on the segment as it is written so far.
-- `proofs/Walks.antt` shows that it answers what following the sites means, and what it leaves in the two.
use Rattle.std.specs.Prelude.{◌≡◌, ℕ, zero, suc, ◌-◌, ◌<◌, cond, List, [], ◌∷◌, ltb, length, Result, Ok, Err, Option, Some, None}
use Rattle.le.specs.Number.{word_at}
use Rattle.checks.specs.Checks.{Check, ◌⇒◌, decide}
use Rattle.refusal.specs.declared.Refusal.{Refusal}
use Rattle.refusal.specs.declared.Refusal.TheVariants.{SpanOutside, SpanTaken, SitesOver}
use Rattle.site.specs.Site.{site_of, width_of, end_of, put}
use Rattle.site.specs.Walk.{is_last}
use Rattle.site.specs.declared.Fixup.{Fixup}
use Rattle.claim.specs.Internal.{taken, claimed}

-- What the pass answers, and what it leaves.
pub record Pass : Type 0 where
  pub answer : Result ℕ Refusal
  pub marks : List ℕ
  pub bytes : List ℕ

abbrev pub passed : Result ℕ Refusal → List ℕ → List ℕ → Pass
passed answer marks bytes = record { answer = answer; marks = marks; bytes = bytes }

-- There is a mark and a written byte for each stored one.
abbrev pub SameSize : List ℕ → List ℕ → List ℕ → Type 0
SameSize stored marks bytes = (length marks ≡ length stored) × (length bytes ≡ length stored)

-- "24: span outside the stored bytes", "25: span meets an earlier one".
abbrev pub claim_checks : List ℕ → ℕ → Fixup → List (Check Refusal)
claim_checks marks at f =
    (ltb (length marks) (end_of (site_of f at)) ⇒ SpanOutside)
    ∷ (taken (width_of f.kind f.additive) marks at ⇒ SpanTaken)
    ∷ []

-- The marks with a site's span claimed.
abbrev pub with_span : Fixup → ℕ → List ℕ → List ℕ
with_span f at marks = claimed (width_of f.kind f.additive) marks at

-- The sites of a fixup from a place on; `left` more may be followed, and `done` are so far.
unfoldable pub pass_from : ℕ → List ℕ → Fixup → ℕ → ℕ → List ℕ → List ℕ → Pass
pass_from zero stored f at done marks bytes =
    decide (λ why. passed (Err why) marks bytes) (claim_checks marks at f) (passed (Err SitesOver) (with_span f at marks) bytes)
pass_from (suc left) stored f at done marks bytes =
    let written = put stored (site_of f at) bytes in
    let onward = pass_from left stored f (word_at stored at) (suc done) (with_span f at marks) written in
    let answer = cond (is_last f (word_at stored at)) (passed (Ok (suc done)) (with_span f at marks) written) onward in
    decide (λ why. passed (Err why) marks bytes) (claim_checks marks at f) answer

-- The same behind the claim of a site's span: its bytes are written, unless no more may be followed.
abbrev pub claimed_pass : ℕ → List ℕ → Fixup → ℕ → ℕ → List ℕ → List ℕ → Pass
claimed_pass zero stored f at done marks bytes = passed (Err SitesOver) marks bytes
claimed_pass (suc left) stored f at done marks bytes =
    let written = put stored (site_of f at) bytes in
    cond (is_last f (word_at stored at)) (passed (Ok (suc done)) marks written) (pass_from left stored f (word_at stored at) (suc done) marks written)

-- "26: over 65,536 sites followed": so many more may be.
abbrev pub fuel : ℕ → ℕ
fuel done = 65536 - done

abbrev pub pass_of : List ℕ → Fixup → ℕ → List ℕ → List ℕ → Pass
pass_of stored f done marks bytes = pass_from (fuel done) stored f f.site done marks bytes

-- The sites of a record, whatever it asks for.
abbrev pub action_pass : List ℕ → Result (Option Fixup) Refusal → ℕ → List ℕ → List ℕ → Pass
action_pass stored (Ok None) done marks bytes = passed (Ok done) marks bytes
action_pass stored (Err why) done marks bytes = passed (Err why) marks bytes
action_pass stored (Ok (Some f)) done marks bytes = pass_of stored f done marks bytes

-- What is left of the pass after one site, by what the site gave.
abbrev pub after_site : List ℕ → Fixup → ℕ → Result (Option ℕ) Refusal → List ℕ → List ℕ → Pass
after_site stored f done (Ok None) marks bytes = passed (Ok (suc done)) marks bytes
after_site stored f done (Ok (Some at)) marks bytes = pass_from (fuel (suc done)) stored f at (suc done) marks bytes
after_site stored f done (Err why) marks bytes = passed (Err why) marks bytes

-- A site that is not refused is not over the number that may be followed.
abbrev pub Going : ℕ → Result (Option ℕ) Refusal → Type 0
Going done (Ok None) = done < 65536
Going done (Ok (Some at)) = done < 65536
Going done (Err why) = Unit
