-- Where going over the records stops, and why.
--     stops   at a record: those before it are gone over by themselves, and up to it they are not; it is refused by itself,
--             or it has a bad site. So 26 is never given: a site that passes 24 and 25 makes one more that lies in the stored
--             bytes and shares no byte, and there are at most as many of these as bytes.
-- Assumes nothing.
use Rattle.std.specs.Prelude.{Result, Ok, Err, Option, Some, None}
use mathlib.Core.Path.{◌≡◌, refl, sym, ◌∙◌}
use mathlib.Core.Logic.{◌⊎◌, inl, inr}
use mathlib.Core.Bool.{Bool, true, false, cond, ◌||◌}
use mathlib.Core.List.{List, [], ◌∷◌, ◌++◌, map, append-nil}
use Prim.Native.Nat.{ℕ, zero, suc, ◌+◌, ◌-◌, ◌≤◌, ◌<◌}
use native.Mathlib.Omega.{arith}
use borrow.Author.Tests.{eqb-false}
use lib.Dec.{eqb}
use lib.ListN.{length, length-append}
use lib.Seq.{append_snoc}
use Rattle.le.specs.Number.{word_at}
use Rattle.checks.proofs.Impossible.{never}
use Rattle.lists.specs.Lists.{each}
use Rattle.refusal.specs.declared.Refusal.{Refusal}
use Rattle.refusal.specs.declared.Refusal.TheVariants.{SitesOver}
use Rattle.site.specs.Site.{Site, site_of}
use Rattle.site.specs.BadSite.{Bad, Leads, here, next, BadSite}
use Rattle.site.specs.Walk.{Walked, Stopped, is_last, follow_from, followed, walk_from, walk_of}
use Rattle.site.specs.declared.Fixup.{Fixup}
use Rattle.site.proofs.Spans.{sites_few}
use Rattle.site.proofs.Meets.{Good, site_cases}
use Rattle.site.proofs.Accept.{follow_accepted}
use Rattle.checks.specs.Onward.{on_result}

-- Where following a fixup's sites from a place on halts.
record HaltsAt (stored : List ℕ) (f : Fixup) (from : ℕ) (earlier : List Site) (why : Refusal) : Type 0 where
  places : List ℕ
  at : ℕ
  leads : Leads stored from places at
  single : f.additive ≡ true → places ≡ []
  good : Good stored (earlier ++ map (site_of f) places)
  bad : Bad stored (earlier ++ map (site_of f) places) (site_of f at) why

module _ (stored : List ℕ) (f : Fixup) (why : Refusal) where
  halts_here : (at : ℕ) (earlier : List Site) (reason : Refusal) → Good stored earlier → Bad stored earlier (site_of f at) reason → ◌≡◌ {A = Result (List Site) Refusal} (Err reason) (Err why) → HaltsAt stored f at earlier why
  halts_here at earlier reason g b e =
      let same : reason ≡ why = cc in
      record { places = []; at = at; leads = here at; single = λ s. refl; good = rw append-nil g; bad = rw (append-nil, ← same) b }

  halts_on : (at : ℕ) (earlier : List Site) → (additive ends : Bool) → f.additive ≡ additive → eqb (word_at stored at) 0xffff ≡ ends → (additive || ends) ≡ false → HaltsAt stored f (word_at stored at) (earlier ++ site_of f at ∷ []) why → HaltsAt stored f at earlier why
  halts_on at earlier true ends p q e w = never cc
  halts_on at earlier false true p q e w = never cc
  halts_on at earlier false false p q e w =
      let snoc = append_snoc earlier (site_of f at) (map (site_of f) w.places) in
      record {
        places = at ∷ w.places;
        at = w.at;
        leads = next at (eqb-false _ _ q) w.leads;
        single = λ s. let z : true ≡ false = sym s ∙ p in never cc;
        good = rw snoc at w.good;
        bad = rw snoc at w.bad;
      }

  -- One more site that is good makes one more than there are bytes.
  full : (earlier : List Site) (s : Site) → length stored ≤ length earlier → Good stored (earlier ++ s ∷ []) → ⊥
  full earlier s room g = omega (arith, sites_few stored (earlier ++ s ∷ []) g.0 g.1, length-append earlier (s ∷ []))

  halts : (left at : ℕ) (earlier : List Site) → Good stored earlier → length stored ≤ left + length earlier → follow_from left stored f at earlier ≡ Err why → HaltsAt stored f at earlier why
  unfolding follow_from
  halts zero at earlier g room e = site_cases stored earlier (site_of f at) (Err SitesOver) (λ w. w ≡ Err why → HaltsAt stored f at earlier why) g (λ reason bad z. halts_here at earlier reason g bad z) (λ good z. absurd (full earlier (site_of f at) (omega arith) good)) e
  halts (suc left) at earlier g room e = site_cases stored earlier (site_of f at) _ (λ w. w ≡ Err why → HaltsAt stored f at earlier why) g (λ reason bad z. halts_here at earlier reason g bad z) (λ good. go (is_last f (word_at stored at)) refl (λ z. halts left (word_at stored at) (earlier ++ site_of f at ∷ []) good (omega (arith, length-append earlier (site_of f at ∷ []))) z)) e
    where
      onward : Result (List Site) Refusal
      onward = follow_from left stored f (word_at stored at) (earlier ++ site_of f at ∷ [])

      go : (done : Bool) → is_last f (word_at stored at) ≡ done → (onward ≡ Err why → HaltsAt stored f (word_at stored at) (earlier ++ site_of f at ∷ []) why) → cond done (Ok (earlier ++ site_of f at ∷ [])) onward ≡ Err why → HaltsAt stored f at earlier why
      go true r ih z = never cc
      go false r ih z = halts_on at earlier f.additive (eqb (word_at stored at) 0xffff) refl refl r (ih z)

  bad_site : (earlier : List Site) → Good stored earlier → length stored ≤ 65536 → followed stored f earlier ≡ Err why → BadSite stored earlier f why
  bad_site earlier g small e =
      let w = halts (65536 - length earlier) f.site earlier g (omega arith) e in
      record { places = w.places; at = w.at; leads = w.leads; single = w.single; inside = w.good.0; apart = w.good.1; bad = w.bad }

-- Why a record stops the walk, behind earlier sites.
abbrev pub Because : List ℕ → List Site → Result (Option Fixup) Refusal → Refusal → Type 0
Because stored earlier a why = (a ≡ Err why) ⊎ ((f : Fixup) × (a ≡ Ok (Some f)) × BadSite stored earlier f why)

-- The records are given by their index. Those before the one of `index` are gone over, and it stops the walk.
pub record StopsAt (stored : List ℕ) (n : ℕ) (actions : ℕ → Result (Option Fixup) Refusal) (number : ℕ) (earlier : List Site) (why : Refusal) (at : ℕ) : Type 0 where
  pub index : ℕ
  pub within : index < n
  pub numbered : at ≡ number + index
  pub sites : List Site
  pub before : walk_from stored (each index actions) number earlier ≡ Walked sites
  pub there : walk_from stored (each (suc index) actions) number earlier ≡ Stopped why at
  pub because : Because stored sites (actions index) why

same_parts : {why why' : Refusal} {n n' : ℕ} → Stopped why n ≡ Stopped why' n' → (why ≡ why') × (n ≡ n')
same_parts e = (cc, cc)

module _ (stored : List ℕ) (small : length stored ≤ 65536) where
  -- The first record stops the walk.
  stops_first : (n : ℕ) (actions : ℕ → Result (Option Fixup) Refusal) (number : ℕ) (earlier : List Site) (why : Refusal) (at : ℕ) → number ≡ at → walk_from stored (actions 0 ∷ []) number earlier ≡ Stopped why at → Because stored earlier (actions 0) why → StopsAt stored (suc n) actions number earlier why at
  unfolding walk_from
  stops_first n actions number earlier why at is there because =
      record { index = 0; within = omega arith; numbered = omega arith; sites = earlier; before = refl; there = there; because = because }

  -- The first record is gone over, and a later one stops the walk.
  stops_later : (n : ℕ) (actions : ℕ → Result (Option Fixup) Refusal) (number : ℕ) (earlier between : List Site) (why : Refusal) (at : ℕ) → ((rest : List (Result (Option Fixup) Refusal)) → walk_from stored (actions 0 ∷ rest) number earlier ≡ walk_from stored rest (suc number) between) → StopsAt stored n (λ i. actions (suc i)) (suc number) between why at → StopsAt stored (suc n) actions number earlier why at
  stops_later n actions number earlier between why at on s =
      record {
        index = suc s.index;
        within = omega (arith, s.within);
        numbered = omega (arith, s.numbered);
        sites = s.sites;
        before = on _ ∙ s.before;
        there = on _ ∙ s.there;
        because = s.because;
      }

  stops_from : (n : ℕ) (actions : ℕ → Result (Option Fixup) Refusal) (number : ℕ) (earlier : List Site) (why : Refusal) (at : ℕ) → Good stored earlier → walk_from stored (each n actions) number earlier ≡ Stopped why at → StopsAt stored n actions number earlier why at
  unfolding walk_from
  stops_from zero actions number earlier why at g e = never cc
  stops_from (suc n) actions number earlier why at g e = go (actions 0) refl (λ between good z. stops_from n (λ i. actions (suc i)) (suc number) between why at good z) e
    where
      others : List (Result (Option Fixup) Refusal)
      others = each n (λ i. actions (suc i))

      Later : Type 0
      Later = (between : List Site) → Good stored between → walk_from stored others (suc number) between ≡ Stopped why at → StopsAt stored n (λ i. actions (suc i)) (suc number) between why at

      apply : (f : Fixup) → actions 0 ≡ Ok (Some f) → Later → (w : Result (List Site) Refusal) → followed stored f earlier ≡ w → on_result w (λ reason. Stopped reason number) (λ sites. walk_from stored others (suc number) sites) ≡ Stopped why at → StopsAt stored (suc n) actions number earlier why at
      apply f is later (Err reason) p z =
          let part : (reason ≡ why) × (number ≡ at) = same_parts z in
          stops_first n actions number earlier why at part.1 (rw (is, p) z) (inr (f, is, bad_site stored f why earlier g small (rw part.0 at p)))
      apply f is later (Ok between) p z = stops_later n actions number earlier between why at (λ rest. rw (is, p)) (later between (follow_accepted stored f _ f.site earlier between g p).good z)

      go : (a : Result (Option Fixup) Refusal) → actions 0 ≡ a → Later → walk_from stored (a ∷ others) number earlier ≡ Stopped why at → StopsAt stored (suc n) actions number earlier why at
      go (Ok None) is later z = stops_later n actions number earlier earlier why at (λ rest. rw is) (later earlier g z)
      go (Err reason) is later z =
          let part : (reason ≡ why) × (number ≡ at) = same_parts z in
          stops_first n actions number earlier why at part.1 (rw is z) (inl (rw part.0 at is))
      go (Ok (Some f)) is later z = apply f is later (followed stored f earlier) refl z

  pub stops : (n : ℕ) (actions : ℕ → Result (Option Fixup) Refusal) (why : Refusal) (at : ℕ) → walk_of stored (each n actions) ≡ Stopped why at → StopsAt stored n actions 1 [] why at
  stops n actions why at e = stops_from n actions 1 [] why at (tt, tt) e
