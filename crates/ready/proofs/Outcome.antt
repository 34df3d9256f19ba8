-- What the checks' answer says of preparing.
--     was_refused   a refusal is preparing's own
--     was_passed    where they are passed, the request is ready, and preparing goes over the records
-- Assumes nothing.
use Rattle.std.specs.Prelude.{Result, Ok, Err}
use mathlib.Core.Path.{◌≡◌, ap, sym, ◌∙◌}
use mathlib.Core.Logic.{◌⊎◌, inl, inr}
use Rattle.checks.proofs.Impossible.{never}
use Rattle.refusal.specs.declared.Refusal.{Refusal}
use Rattle.header.specs.declared.Header.{Header}
use Rattle.segment.specs.declared.Segment.{Segment}
use Rattle.prepare.specs.Prepare.{Request, Outcome, refuse, prepare_of}
use Rattle.ready.specs.declared.Passed.{Passed}
use Rattle.prepare.specs.Sound.{Ready}
use Rattle.prepare.proofs.Ready.{walked, IsEarly, IsReady, came, ready_map}
use Rattle.ready.specs.Internal.{passed, ready_of}

module _ (q : Request) where
  -- What preparing makes of the checks' answer.
  abbrev then : Result Passed Refusal → Outcome
  then (Err why) = refuse why
  then (Ok r) = walked q r.header r.segment

  pub was_refused : (why : Refusal) → Err why ≡ ready_of q → prepare_of q ≡ refuse why
  unfolding ready_of prepare_of
  was_refused why e = ready_map q then Err passed ∙ rw (← e)

  pub was_passed : (h : Header) (s : Segment) → passed h s ≡ ready_of q → Ready q h s
  unfolding ready_of
  was_passed h s e = go (came q Err passed)
    where
      same : {h' : Header} {s' : Segment} → passed h' s' ≡ passed h s → (h' ≡ h) × (s' ≡ s)
      same {h'} {s'} p =
          let r : ◌≡◌ {A = Passed} (record { header = h'; segment = s' }) (record { header = h; segment = s }) = cc in
          (ap (λ (r : Passed). r.header) r, ap (λ (r : Passed). r.segment) r)

      go : (IsEarly q Err passed (ready_of q) ⊎ IsReady q Err passed (ready_of q)) → Ready q h s
      go (inl r) = let z = r.2 ∙ sym e in never cc
      go (inr r) = let p = same (r.3 ∙ sym e) in rw (p.0, p.1) at r.2
