-- The pass site by site.
--     inside, refused, free   what the claim of a site's span decides
--     ends, goes              what comes after it
-- Assumes nothing.
use Rattle.std.proofs.Common.{◌≡◌, ◌∙◌, refl, sym, true, false, List, ℕ, zero, suc, ◌+◌, ◌≤◌, ◌<◌, length, Result, Ok, Err, arith}
use borrow.Author.Tests.{ltb-false}
use lib.Seq.{sets}
use Rattle.le.specs.Number.{byte_at, word_at}
use Rattle.refusal.specs.declared.Refusal.{Refusal}
use Rattle.site.specs.Site.{width_of, written_over}
use Rattle.site.specs.Walk.{is_last}
use Rattle.site.specs.declared.Fixup.{Fixup}
use Rattle.claim.specs.Internal.{claim_of, marks_after}
use Rattle.claim.proofs.Cases as cases
use Rattle.patch.proofs.Written.{put_is}
use Rattle.follow.specs.Internal.{passed, with_span, pass_from, claimed_pass, fuel}

module _ (stored : List ℕ) (f : Fixup) (at done : ℕ) (marks bytes : List ℕ) where
  -- The span's claim, as it is asked for.
  module _ (width : ℕ) (wide : width ≡ width_of f.kind f.additive) (claim : Result Unit Refusal) (is : claim ≡ claim_of marks at width) where
    its_claim : {A : Result Unit Refusal} → claim ≡ A → claim_of marks at (width_of f.kind f.additive) ≡ A
    its_claim was = sym (rw wide at is) ∙ was

    pub inside : (unit : Unit) → claim ≡ Ok unit → at + width_of f.kind f.additive ≤ length marks
    inside unit was = ltb-false _ _ (cases.claimed marks at (width_of f.kind f.additive) unit (its_claim was)).0

    pub refused : (left : ℕ) (why : Refusal) (after : List ℕ) → claim ≡ Err why → after ≡ marks_after claim marks at width → passed (Err why) after bytes ≡ pass_from left stored f at done marks bytes
    unfolding pass_from
    refused zero why after was e =
        let same : after ≡ marks = rw was at e in
        rw same (cases.refused marks at (width_of f.kind f.additive) (λ why. passed (Err why) marks bytes) _ why (its_claim was))
    refused (suc left) why after was e =
        let same : after ≡ marks = rw was at e in
        rw same (cases.refused marks at (width_of f.kind f.additive) (λ why. passed (Err why) marks bytes) _ why (its_claim was))

    pub free : (left : ℕ) (unit : Unit) (after : List ℕ) → claim ≡ Ok unit → after ≡ marks_after claim marks at width → claimed_pass left stored f at done after bytes ≡ pass_from left stored f at done marks bytes
    unfolding pass_from
    free zero unit after was e =
        let own : after ≡ with_span f at marks = rw (was, wide) at e in
        let says = cases.claimed marks at (width_of f.kind f.additive) unit (its_claim was) in
        rw (own, says.0, says.1) refl
    free (suc left) unit after was e =
        let own : after ≡ with_span f at marks = rw (was, wide) at e in
        let says = cases.claimed marks at (width_of f.kind f.additive) unit (its_claim was) in
        rw (own, says.0, says.1) refl

module _ (stored : List ℕ) (f : Fixup) (at done : ℕ) (bytes : List ℕ) where
  -- The bytes that were read there, and what was written.
  module _ (byte word : ℕ) (after : List ℕ) (b : byte ≡ byte_at stored at) (w : word ≡ word_at stored at) (wrote : after ≡ sets bytes at (written_over f.kind f byte word)) (room : done < 65536) where
    one_more : fuel done ≡ suc (fuel (suc done))
    one_more = omega arith

    pub ends : is_last f word ≡ true → (marks : List ℕ) → passed (Ok (suc done)) marks after ≡ claimed_pass (fuel done) stored f at done marks bytes
    ends last marks =
        let is : is_last f (word_at stored at) ≡ true = rw w at last in
        rw (put_is stored f at bytes after byte word b w wrote, one_more, is)

    pub goes : is_last f word ≡ false → (marks : List ℕ) → pass_from (fuel (suc done)) stored f word (suc done) marks after ≡ claimed_pass (fuel done) stored f at done marks bytes
    goes more marks =
        let is : is_last f (word_at stored at) ≡ false = rw w at more in
        rw (put_is stored f at bytes after byte word b w wrote, w, one_more, is)
