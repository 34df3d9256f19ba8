-- Demand 3: the steps of all records in every order.
--     every_order   they end in the prepared bytes
--     stored_sites  the sites that each writes in the unfixed segment are those of its stored chain, or its single one
--     own_sites     each changes only what is written at its own record's sites, on any buffer
-- Assumes nothing.
use Rattle.std.specs.Prelude.{Result, Ok, Err, Option}
use mathlib.Core.Path.{◌≡◌, refl, sym, ◌∙◌}
use mathlib.Core.List.{List, [], ◌∷◌, map, Perm}
use Prim.Native.Nat.{ℕ}
use lib.ListN.{length}
use Rattle.le.specs.Number.{byte_at}
use Rattle.lists.specs.Lists.{All, in_turn, gathered}
use Rattle.lists.proofs.Each.{each_same, each_mapped}
use Rattle.header.specs.Header.{header_of}
use Rattle.checks.specs.Onward.{on_result}
use Rattle.header.specs.declared.Header.{Header}
use Rattle.refusal.specs.declared.Refusal.{Refusal}
use Rattle.site.specs.declared.Fixup.{Fixup}
use Rattle.segment.specs.declared.Segment.{Segment}
use Rattle.fixup.specs.Record.{record_at, bytes_at}
use Rattle.fixup.specs.Action.{action_of}
use Rattle.fixup.proofs.Fields.{own_bytes}
use Rattle.site.specs.Exact.{IsWritten}
use Rattle.site.specs.Prepared.{unfixed, prepared}
use Rattle.site.specs.Walk.{Walked}
use Rattle.site.specs.Step as site
use Rattle.site.proofs.Order as site-order
use Rattle.site.proofs.Step as site-step
use Rattle.prepare.specs.Prepare.{Request, Prepared, stored_of, list_of, action_in, import_answer, actions_of, outcome_of, prepare_of}
use Rattle.prepare.specs.Sound.{Ready, Sound}
use Rattle.prepare.specs.Step.{Given, step_of, visited_of, given_in, given_of, steps_of, EveryOrder}
use Rattle.prepare.proofs.Ready.{is_walked}
use Rattle.prepare.proofs.Accept.{stored_fits, to_sites, made}

module _ (q : Request) (h : Header) where
  -- What a record asks for that a step is given.
  abbrev action : Given → Result (Option Fixup) Refusal
  action g = action_of q.image h q.selectors g.answer (record_at g.bytes 0)

  step_is : header_of q.image ≡ Ok h → (g : Given) (buffer : List ℕ) → step_of q.image q.selectors g buffer ≡ site.step_of (action g) buffer
  unfolding step_of
  step_is good g buffer = rw good

  steps_are : header_of q.image ≡ Ok h → (records : List Given) (buffer : List ℕ) → steps_of q records buffer ≡ in_turn site.step_of (map action records) buffer
  steps_are good [] buffer = refl
  steps_are good (g ∷ records) buffer = rw (step_is good g buffer) (steps_are good records (site.step_of (action g) buffer))

  visit_is : header_of q.image ≡ Ok h → (g : Given) (buffer : List ℕ) → visited_of q.image q.selectors g buffer ≡ site.visited (action g) buffer
  unfolding visited_of
  visit_is good g buffer = rw good

  visits_are : header_of q.image ≡ Ok h → (buffer : List ℕ) (records : List Given) → gathered (λ g. visited_of q.image q.selectors g buffer) records ≡ gathered (λ a. site.visited a buffer) (map action records)
  visits_are good buffer [] = refl
  visits_are good buffer (g ∷ records) = rw (visit_is good g buffer, visits_are good buffer records)

  actions_are : (s : Segment) → map action (given_of q s) ≡ actions_of q h s
  actions_are s = each_mapped s.records (given_in q s) action ∙ each_same s.records (λ i. action_of q.image h q.selectors (import_answer q i) (record_at (bytes_at (list_of q s) i) 0)) (action_in q h s) (λ i k. rw (own_bytes (list_of q s) i))

-- Start from the stored bytes and zeros up to the allocation, carry out all records, each once, each with its own answer, each
-- on the buffer that the last one left: in every order of the whole list the buffer at the end is the output of preparing.
pub every_order : (q : Request) (h : Header) (s : Segment) → Ready q h s → {count : ℕ} {bytes marks : List ℕ} → prepare_of q ≡ Prepared count bytes marks → EveryOrder q s bytes
unfolding to_sites
every_order q h s ready {count} {bytes} {marks} e records p =
    let m = made q h s ready count bytes marks (sym (is_walked q h s ready) ∙ e) in
    go m.0 m.1
  where
    go : (sound : Sound q h s) → Prepared count bytes marks ≡ outcome_of q s (Walked sound.sites) → steps_of q records (unfixed (stored_of q s) s.allocation) ≡ bytes
    go sound is =
        let b : prepared (stored_of q s) s.allocation sound.sites ≡ bytes = cc in
        let permuted : Perm (actions_of q h s) (map (action q h) records) = rw (← (actions_are q h s)) (mathlib.Core.List.Perm.map (action q h) p) in
        steps_are q h ready.found.numbered.header records (unfixed (stored_of q s) s.allocation)
        ∙ site-order.every_order (stored_of q s) s.allocation (stored_fits q h s ready) (actions_of q h s) (to_sites q h s ready.selectors sound) (map (action q h) records) permuted
        ∙ b

-- The sites of all records as the steps find them are the sites as stored.
pub stored_sites : (q : Request) (h : Header) (s : Segment) → Ready q h s → (sound : Sound q h s) → gathered (λ g. visited_of q.image q.selectors g (unfixed (stored_of q s) s.allocation)) (given_of q s) ≡ sound.sites
unfolding to_sites
stored_sites q h s ready sound =
    visits_are q h ready.found.numbered.header (unfixed (stored_of q s) s.allocation) (given_of q s)
    ∙ rw (actions_are q h s) (site-order.stored_sites (stored_of q s) s.allocation (stored_fits q h s ready) (actions_of q h s) (to_sites q h s ready.selectors sound))

module _ (image selectors : List ℕ) (g : Given) (buffer : List ℕ) where
  pub own_sites : (place : ℕ) → All (λ x. IsWritten buffer place x → ⊥) (visited_of image selectors g buffer) → byte_at (step_of image selectors g buffer) place ≡ byte_at buffer place
  unfolding step_of visited_of
  own_sites place free = go (header_of image) free
    where
      go : (a : Result Header Refusal) → All (λ x. IsWritten buffer place x → ⊥) (on_result a (λ why. []) (λ h. site.visited (action_of image h selectors g.answer (record_at g.bytes 0)) buffer)) → byte_at (on_result a (λ why. buffer) (λ h. site.step_of (action_of image h selectors g.answer (record_at g.bytes 0)) buffer)) place ≡ byte_at buffer place
      go (Ok h) k = site-step.own_sites (action_of image h selectors g.answer (record_at g.bytes 0)) buffer place k
      go (Err why) k = refl

  pub step_length : length (step_of image selectors g buffer) ≡ length buffer
  unfolding step_of
  step_length = go (header_of image)
    where
      go : (a : Result Header Refusal) → length (on_result a (λ why. buffer) (λ h. site.step_of (action_of image h selectors g.answer (record_at g.bytes 0)) buffer)) ≡ length buffer
      go (Ok h) = site-step.length_step (action_of image h selectors g.answer (record_at g.bytes 0)) buffer
      go (Err why) = refl
