-- Acceptance, exactly: the walk accepts if and only if the sites are sound, and then its sites are theirs.
-- Assumes nothing.
use Rattle.std.specs.Prelude.{Result, Ok, Err, Option, Some, None}
use mathlib.Core.Path.{◌≡◌, refl, sym, ap, ◌∙◌}
use mathlib.Core.Bool.{Bool, true, false, cond, ◌||◌}
use mathlib.Core.List.{List, [], ◌∷◌, ◌++◌, map, append_assoc, append-nil}
use Prim.Native.Nat.{ℕ, zero, suc, ◌-◌, ◌≤◌}
use native.Mathlib.Omega.{arith}
use borrow.Author.Tests.{eqb-true, eqb-false, eq-eqb, ne_eqb}
use lib.Dec.{eqb}
use lib.ListN.{length, length-append, length-map}
use lib.Seq.{append_snoc}
use Rattle.le.specs.Number.{word_at}
use Rattle.checks.proofs.Checks.{decided}
use Rattle.checks.proofs.Impossible.{never}
use Rattle.refusal.specs.declared.Refusal.TheVariants.{SitesOver}
use Rattle.lists.specs.Lists.{All}
use Rattle.lists.proofs.All.{all_front, pairs_front}
use Rattle.site.specs.Site.{Site, site_of, Inside, Apart}
use Rattle.site.specs.Walk.{Walked, Stopped, site_checks, is_last, follow_from, followed, walk_from, walk_of}
use Rattle.site.specs.Sound.{Chain, last, next, Sites, none, os, refused, single, chain, Resolved, Sound}
use Rattle.site.specs.declared.Fixup.{Fixup}
use Rattle.refusal.specs.declared.Refusal.{Refusal}
use Rattle.site.proofs.Spans.{sites_few}
use Rattle.site.proofs.Meets.{Good, site_cases, checks_pass}
use Rattle.checks.specs.Onward.{on_result}

-- The places of a fixup's sites from a place on, as stored.
pub data Own (stored : List ℕ) (f : Fixup) (at : ℕ) : List ℕ → Type 0 where
  one : f.additive ≡ true → Own stored f at (at ∷ [])
  more : {places : List ℕ} → f.additive ≡ false → Chain stored at places → Own stored f at places

-- What a record whose sites were followed gives.
pub record Came (stored : List ℕ) (f : Fixup) (at : ℕ) (earlier sites : List Site) : Type 0 where
  pub places : List ℕ
  pub theirs : Own stored f at places
  pub all : sites ≡ earlier ++ map (site_of f) places
  pub good : Good stored sites

module _ (stored : List ℕ) (f : Fixup) where
  came_last : (at : ℕ) (earlier : List Site) → Good stored (earlier ++ site_of f at ∷ []) → (additive ends : Bool) → f.additive ≡ additive → eqb (word_at stored at) 0xffff ≡ ends → (additive || ends) ≡ true → Came stored f at earlier (earlier ++ site_of f at ∷ [])
  came_last at earlier g true ends p q e = record { places = at ∷ []; theirs = one p; all = refl; good = g }
  came_last at earlier g false true p q e = record { places = at ∷ []; theirs = more p (last at (eqb-true _ _ q)); all = refl; good = g }
  came_last at earlier g false false p q e = never cc

  came_on : (at : ℕ) (earlier sites : List Site) → (additive ends : Bool) → f.additive ≡ additive → eqb (word_at stored at) 0xffff ≡ ends → (additive || ends) ≡ false → Came stored f (word_at stored at) (earlier ++ site_of f at ∷ []) sites → Came stored f at earlier sites
  came_on at earlier sites true ends p q e c = never cc
  came_on at earlier sites false true p q e c = never cc
  came_on at earlier sites false false p q e c =
      record {
        places = at ∷ c.places;
        theirs = more p (next at (eqb-false _ _ q) (chained c.theirs));
        all = c.all ∙ append_snoc earlier (site_of f at) (map (site_of f) c.places);
        good = c.good;
      }
    where
      chained : {places : List ℕ} → Own stored f (word_at stored at) places → Chain stored (word_at stored at) places
      chained (one t) = let z : true ≡ false = sym t ∙ p in never cc
      chained (more t h) = h

  pub follow_accepted : (left at : ℕ) (earlier sites : List Site) → Good stored earlier → follow_from left stored f at earlier ≡ Ok sites → Came stored f at earlier sites
  unfolding follow_from
  follow_accepted zero at earlier sites g e = site_cases stored earlier (site_of f at) (Err SitesOver) (λ w. w ≡ Ok sites → Came stored f at earlier sites) g (λ why bad z. never cc) (λ good z. never cc) e
  follow_accepted (suc left) at earlier sites g e = site_cases stored earlier (site_of f at) _ (λ w. w ≡ Ok sites → Came stored f at earlier sites) g (λ why bad z. never cc) (λ good. go good (is_last f (word_at stored at)) refl (λ z. follow_accepted left (word_at stored at) (earlier ++ site_of f at ∷ []) sites good z)) e
    where
      onward : Result (List Site) Refusal
      onward = follow_from left stored f (word_at stored at) (earlier ++ site_of f at ∷ [])

      go : Good stored (earlier ++ site_of f at ∷ []) → (done : Bool) → is_last f (word_at stored at) ≡ done → (onward ≡ Ok sites → Came stored f (word_at stored at) (earlier ++ site_of f at ∷ []) sites) → cond done (Ok (earlier ++ site_of f at ∷ [])) onward ≡ Ok sites → Came stored f at earlier sites
      go good true r ih z =
          let is : sites ≡ earlier ++ site_of f at ∷ [] = cc in
          rw is (came_last at earlier good f.additive (eqb (word_at stored at) 0xffff) refl refl r)
      go good false r ih z = came_on at earlier sites f.additive (eqb (word_at stored at) 0xffff) refl refl r (ih z)

  -- The other way: sites that are good are followed to their end.
  follow_last : (left at : ℕ) (earlier : List Site) → Good stored (earlier ++ site_of f at ∷ []) → is_last f (word_at stored at) ≡ true → follow_from (suc left) stored f at earlier ≡ Ok (earlier ++ site_of f at ∷ [])
  unfolding follow_from
  follow_last left at earlier g done =
      decided Err (site_checks stored earlier (site_of f at)) _ (checks_pass stored earlier (site_of f at) [] g) ∙ rw done

  follow_chain : (left : ℕ) {at : ℕ} {places : List ℕ} → Chain stored at places → (earlier : List Site) → f.additive ≡ false → length places ≤ left → Good stored (earlier ++ map (site_of f) places) → follow_from left stored f at earlier ≡ Ok (earlier ++ map (site_of f) places)
  unfolding follow_from
  follow_chain zero (last at e) earlier p h g = absurd (omega arith)
  follow_chain zero (next at e c) earlier p h g = absurd (omega arith)
  follow_chain (suc left) (last at e) earlier p h g = follow_last left at earlier g (rw (p, eq-eqb _ _ e))
  follow_chain (suc left) (next at {places} e c) earlier p h g =
      let pass = decided Err (site_checks stored earlier (site_of f at)) _ (checks_pass stored earlier (site_of f at) (map (site_of f) places) g) in
      let on : is_last f (word_at stored at) ≡ false = rw (p, ne_eqb _ _ e) in
      let snoc = append_snoc earlier (site_of f at) (map (site_of f) places) in
      let rest = follow_chain left c (earlier ++ site_of f at ∷ []) p (omega arith) (rw snoc g) in
      pass ∙ rw on (rest ∙ ap Ok snoc)

  follow_own : (left : ℕ) {at : ℕ} {places : List ℕ} → Own stored f at places → (earlier : List Site) → length places ≤ left → Good stored (earlier ++ map (site_of f) places) → follow_from left stored f at earlier ≡ Ok (earlier ++ map (site_of f) places)
  follow_own zero (one t) earlier h g = absurd (omega arith)
  follow_own (suc left) {at} (one t) earlier h g = follow_last left at earlier g (rw t)
  follow_own left (more t c) earlier h g = follow_chain left c earlier t h g

-- What going over the records from some on gives, behind earlier sites.
record Went (stored : List ℕ) (actions : List (Result (Option Fixup) Refusal)) (earlier sites : List Site) : Type 0 where
  resolved : All Resolved actions
  rest : List Site
  theirs : Sites stored actions rest
  all : sites ≡ earlier ++ rest
  good : Good stored sites

applies : (f : Fixup) → Resolved (Ok (Some f))
applies f why q = never cc

module _ (stored : List ℕ) where
  went_on : (f : Fixup) (actions : List (Result (Option Fixup) Refusal)) (earlier between sites : List Site) → Came stored f f.site earlier between → Went stored actions between sites → Went stored (Ok (Some f) ∷ actions) earlier sites
  went_on f actions earlier between sites c w = go c.places c.theirs c.all
    where
      go : (places : List ℕ) → Own stored f f.site places → between ≡ earlier ++ map (site_of f) places → Went stored (Ok (Some f) ∷ actions) earlier sites
      go places (one t) e =
          record { resolved = (applies f, w.resolved); rest = site_of f f.site ∷ w.rest; theirs = single f t w.theirs; all = w.all ∙ rw e (append_snoc earlier (site_of f f.site) w.rest); good = w.good }
      go places (more t h) e =
          record { resolved = (applies f, w.resolved); rest = map (site_of f) places ++ w.rest; theirs = chain f t h w.theirs; all = w.all ∙ rw e (append_assoc earlier (map (site_of f) places) w.rest); good = w.good }

  walk_accepted : (actions : List (Result (Option Fixup) Refusal)) (number : ℕ) (earlier sites : List Site) → Good stored earlier → walk_from stored actions number earlier ≡ Walked sites → Went stored actions earlier sites
  unfolding walk_from
  walk_accepted [] number earlier sites g e =
      let is : sites ≡ earlier = cc in
      record { resolved = tt; rest = []; theirs = none; all = is ∙ sym (append-nil earlier); good = rw is g }
  walk_accepted (Ok None ∷ actions) number earlier sites g e =
      let w = walk_accepted actions (suc number) earlier sites g e in
      record { resolved = ((λ why q. never cc), w.resolved); rest = w.rest; theirs = os w.theirs; all = w.all; good = w.good }
  walk_accepted (Err why ∷ actions) number earlier sites g e = never cc
  walk_accepted (Ok (Some f) ∷ actions) number earlier sites g e = go (followed stored f earlier) refl (λ between good q. walk_accepted actions (suc number) between sites good q) e
    where
      go : (r : Result (List Site) Refusal) → followed stored f earlier ≡ r → ((between : List Site) → Good stored between → walk_from stored actions (suc number) between ≡ Walked sites → Went stored actions between sites) → on_result r (λ why. Stopped why number) (λ between. walk_from stored actions (suc number) between) ≡ Walked sites → Went stored (Ok (Some f) ∷ actions) earlier sites
      go (Err why) q ih z = never cc
      go (Ok between) q ih z =
          let c = follow_accepted stored f _ f.site earlier between g q in
          went_on f actions earlier between sites c (ih between c.good z)

  module _ (small : length stored ≤ 65536) where
    -- Good sites are never too many to be followed.
    enough : (f : Fixup) (places : List ℕ) (earlier rest : List Site) → Good stored (earlier ++ (map (site_of f) places ++ rest)) → length places ≤ 65536 - length earlier
    enough f places earlier rest g =
        let few = sites_few stored (earlier ++ (map (site_of f) places ++ rest)) g.0 g.1 in
        let a = length-append earlier (map (site_of f) places ++ rest) in
        let b = length-append (map (site_of f) places) rest in
        let c = length-map places (site_of f) in
        omega arith

    follow_in : (f : Fixup) (places : List ℕ) (earlier rest : List Site) → Own stored f f.site places → Good stored (earlier ++ (map (site_of f) places ++ rest)) → followed stored f earlier ≡ Ok (earlier ++ map (site_of f) places)
    follow_in f places earlier rest own g =
        let grouped : Good stored ((earlier ++ map (site_of f) places) ++ rest) = rw (append_assoc earlier (map (site_of f) places) rest) g in
        follow_own stored f _ own earlier (enough f places earlier rest g) (good_front grouped)
      where
        good_front : Good stored ((earlier ++ map (site_of f) places) ++ rest) → Good stored (earlier ++ map (site_of f) places)
        good_front h = (all_front (Inside stored) (earlier ++ map (site_of f) places) rest h.0, pairs_front Apart (earlier ++ map (site_of f) places) rest h.1)

    walk_sound : {actions : List (Result (Option Fixup) Refusal)} {rest : List Site} → Sites stored actions rest → All Resolved actions → (number : ℕ) (earlier : List Site) → Good stored (earlier ++ rest) → walk_from stored actions number earlier ≡ Walked (earlier ++ rest)
    unfolding walk_from
    walk_sound none known number earlier g = rw (append-nil earlier)
    walk_sound (os theirs) known number earlier g = walk_sound theirs known.1 (suc number) earlier g
    walk_sound (refused why theirs) known number earlier g = absurd (known.0 why refl)
    walk_sound (single f {sites = rest} t theirs) known number earlier g =
        let snoc = append_snoc earlier (site_of f f.site) rest in
        rw (follow_in f (f.site ∷ []) earlier rest (one t) g)
        (walk_sound theirs known.1 (suc number) (earlier ++ site_of f f.site ∷ []) (rw snoc g) ∙ ap Walked snoc)
    walk_sound (chain f {places} {sites = rest} t c theirs) known number earlier g =
        let grouped = append_assoc earlier (map (site_of f) places) rest in
        rw (follow_in f places earlier rest (more t c) g)
        (walk_sound theirs known.1 (suc number) (earlier ++ map (site_of f) places) (rw grouped g) ∙ ap Walked grouped)

  pub accepted_sound : (actions : List (Result (Option Fixup) Refusal)) (sites : List Site) → walk_of stored actions ≡ Walked sites → (sound : Sound stored actions) × (sites ≡ sound.sites)
  accepted_sound actions sites e =
      let w = walk_accepted actions 1 [] sites (tt, tt) e in
      let is : w.rest ≡ sites = sym w.all in
      let good : Good stored w.rest = rw is w.good in
      (record { resolved = w.resolved; sites = w.rest; theirs = w.theirs; inside = good.0; apart = good.1 }, w.all)

  pub sound_accepted : (actions : List (Result (Option Fixup) Refusal)) (sound : Sound stored actions) → length stored ≤ 65536 → walk_of stored actions ≡ Walked sound.sites
  sound_accepted actions sound small = walk_sound small sound.theirs sound.resolved 1 [] (sound.inside, sound.apart)
