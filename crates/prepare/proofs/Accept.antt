-- Acceptance, exactly.
--     stored_length   a segment that is ready has as many stored bytes as its record says
--     stored_small    which are at most 65,536
--     accepts         once everything before the records is passed, preparing accepts if and only if the records are sound
--     accepts_whole   with the checks before the records among what it takes
-- Assumes nothing.
use mathlib.Core.Path.{◌≡◌, refl, sym, ◌∙◌}
use mathlib.Core.Logic.{◌↔◌}
use mathlib.Core.List.{List}
use Prim.Native.Nat.{ℕ, ◌-◌, ◌≤◌, ◌<◌}
use native.Mathlib.Omega.{arith}
use lib.ListN.{length, drop, length-take, length-drop}
use Rattle.checks.proofs.Impossible.{never}
use Rattle.le.specs.Number.{Bytes}
use Rattle.lists.proofs.Each.{all_each, each_all}
use Rattle.header.specs.declared.Header.{Header}
use Rattle.segment.specs.declared.Segment.{Segment}
use Rattle.segment.proofs.Bounds.{record_accepted, allocation_full}
use Rattle.fixup.specs.Action.{KnownType}
use Rattle.fixup.specs.Resolves.{Resolves}
use Rattle.fixup.proofs.Resolves as fixup
use Rattle.site.specs.Site.{Site}
use Rattle.site.specs.Sound as site
use Rattle.site.specs.Walk.{Walk, Walked, Stopped}
use Rattle.site.proofs.Accept.{accepted_sound, sound_accepted}
use Rattle.prepare.specs.Prepare.{Request, Prepared, stored_of, record_in, action_in, import_answer, actions_of, walked_of, outcome_of}
use Rattle.prepare.specs.Sound.{Ready, Sound, Accepts}
use Rattle.prepare.proofs.Ready.{walked, is_walked, was_ready}

-- What the sites' theory calls resolved, in the records' own words, and the other way.
module _ (q : Request) (h : Header) (s : Segment) where
  unfoldable pub from_sites : site.Sound (stored_of q s) (actions_of q h s) → Sound q h s
  from_sites sound =
      record {
        types = all_each KnownType s.records (record_in q s) (λ i k. (known i k).0);
        targets = all_each (Resolves q.image h) s.records (record_in q s) (λ i k. (known i k).1);
        sites = sound.sites;
        chains = sound.theirs;
        inside = sound.inside;
        apart = sound.apart;
      }
    where
      known : (i : ℕ) → i < s.records → KnownType (record_in q s i) × Resolves q.image h (record_in q s i)
      known i k = fixup.known q.image h q.selectors (import_answer q i) (record_in q s i) (each_all site.Resolved s.records (action_in q h s) sound.resolved i k)

  unfoldable pub to_sites : h.segments.count ≤ length q.selectors → Sound q h s → site.Sound (stored_of q s) (actions_of q h s)
  to_sites enough sound =
      record {
        resolved = all_each site.Resolved s.records (action_in q h s) good;
        sites = sound.sites;
        theirs = sound.chains;
        inside = sound.inside;
        apart = sound.apart;
      }
    where
      good : (i : ℕ) → i < s.records → site.Resolved (action_in q h s i)
      good i k = fixup.resolved q.image h q.selectors (import_answer q i) (record_in q s i) enough (each_all KnownType s.records (record_in q s) sound.types i k) (each_all (Resolves q.image h) s.records (record_in q s) sound.targets i k)

module _ (q : Request) (h : Header) (s : Segment) (ready : Ready q h s) where
  pub stored_length : length (stored_of q s) ≡ s.stored
  stored_length =
      let in_image = (record_accepted q.image h (q.number - 1) s ready.found.segment).stored in
      omega (arith, length-take s.stored (drop s.start q.image), length-drop s.start q.image)

  pub stored_fits : length (stored_of q s) ≤ s.allocation
  stored_fits = omega (arith, stored_length, (record_accepted q.image h (q.number - 1) s ready.found.segment).allocation)

  pub stored_small : Bytes q.image → length (stored_of q s) ≤ 65536
  stored_small bytes = omega (arith, stored_fits, allocation_full q.image h (q.number - 1) s ready.found.segment bytes)

  -- What an accepted segment is made from.
  pub made : (sites : ℕ) (bytes marks : List ℕ) → walked q h s ≡ Prepared sites bytes marks → (sound : Sound q h s) × (Prepared sites bytes marks ≡ outcome_of q s (Walked sound.sites))
  unfolding from_sites
  made sites bytes marks e = go (walked_of q h s) refl e
    where
      go : (w : Walk) → walked_of q h s ≡ w → outcome_of q s w ≡ Prepared sites bytes marks → (sound : Sound q h s) × (Prepared sites bytes marks ≡ outcome_of q s (Walked sound.sites))
      go (Walked found) p z =
          let a = accepted_sound (stored_of q s) (actions_of q h s) found p in
          (from_sites q h s a.0, rw (← a.1) (sym z))
      go (Stopped why number) p z = never cc

  pub accepts : Bytes q.image → Accepts q ↔ Sound q h s
  unfolding to_sites
  accepts bytes = (there, back)
    where
      outcome_some : (sites : List Site) → (count : ℕ) × (bytes : List ℕ) × (marks : List ℕ) × (outcome_of q s (Walked sites) ≡ Prepared count bytes marks)
      outcome_some sites = (_, _, _, refl)

      there : Accepts q → Sound q h s
      there a = (made a.0 a.1 a.2 (sym (is_walked q h s ready) ∙ a.3)).0

      back : Sound q h s → Accepts q
      back sound =
          let walk = sound_accepted (stored_of q s) (actions_of q h s) (to_sites q h s ready.selectors sound) (stored_small bytes) in
          let some = outcome_some sound.sites in
          (some.0, some.1, some.2, is_walked q h s ready ∙ rw walk some.3)

pub accepts_whole : (q : Request) → Bytes q.image → Accepts q ↔ ((h : Header) × (s : Segment) × Ready q h s × Sound q h s)
accepts_whole q bytes = (there, λ w. (accepts q w.0 w.1 w.2 bytes).1 w.3)
  where
    there : Accepts q → (h : Header) × (s : Segment) × Ready q h s × Sound q h s
    there a =
        let w = was_ready q a.0 a.1 a.2 a.3 in
        (w.0, w.1, w.2, (accepts q w.0 w.1 w.2 bytes).0 a)
