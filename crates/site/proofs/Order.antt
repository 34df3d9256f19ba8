-- Demand 3: the steps of all records, in every order of the whole list, end in the prepared bytes.
-- Assumes nothing.
use Rattle.std.specs.Prelude.{Result, Ok, Option, Some}
use mathlib.Core.Path.{◌≡◌, refl, sym, ◌∙◌}
use mathlib.Core.Logic.{∥∥₁_elim}
use mathlib.Core.HLevel.{hedberg}
use mathlib.Core.Bool.{true, false}
use mathlib.Core.List.{List, [], ◌∷◌, map, Perm, Permᴰ, is_set}
use Prim.Native.Nat.{ℕ, ◌≤◌}
use native.Mathlib.Decide.{ℕ_discrete}
use native.Mathlib.Omega.{arith}
use lib.ListN.{length, length-map}
use Rattle.lists.specs.Lists.{All, Pairs, in_turn, gathered}
use Rattle.lists.proofs.All.{all_of, all_map, all_front, all_back, pairs_front, pairs_back, pairs_gathered, all_swap, all_both, Across}
use Rattle.lists.proofs.Order.{all_permuted, pairs_permuted, turns_permuted, turns_gathered, turns_exchange, Exchange}
use Rattle.site.specs.Site.{Site, site_of, Inside, Apart, written, put}
use Rattle.site.specs.Prepared.{unfixed, prepared}
use Rattle.site.specs.Step.{step_of, visited}
use Rattle.site.specs.Sound.{Chain, Sites, none, os, refused, single, chain, Sound}
use Rattle.site.specs.declared.Fixup.{Fixup}
use Rattle.refusal.specs.declared.Refusal.{Refusal}
use Rattle.site.proofs.Runs as runs
use Rattle.site.proofs.Spans.{wide, written_in_span, sites_few}
use Rattle.site.proofs.Bytes.{unfixed_length, unfixed_at, place_of}
use Rattle.site.proofs.Step.{Same, single_step, chain_step}

apart_back : (s t : Site) → Apart s t → Apart t s
apart_back s t a p h k = a p k h

across_back : (xs ys : List Site) → Across Apart xs ys → Across Apart ys xs
across_back xs ys p = all_map (λ y. All (λ x. Apart x y) xs) (λ y. All (Apart y) xs) (λ y h. all_map (λ x. Apart x y) (Apart y) (λ x k. apart_back x y k) xs h) ys (all_swap Apart xs ys p)

module _ (stored : List ℕ) (allocation : ℕ) (fits : length stored ≤ allocation) where
  -- A record's own sites, as the unfixed segment has them.
  abbrev own : Result (Option Fixup) Refusal → List Site
  own a = visited a (unfixed stored allocation)

  -- What a sound record's step does on every buffer that has the stored bytes in the record's own spans.
  abbrev Works : Result (Option Fixup) Refusal → Type 0
  Works a = (b : List ℕ) → length stored ≤ length b → All (Same stored b) (own a) → step_of a b ≡ in_turn (put stored) (own a) b

  start : (s : Site) → Same stored (unfixed stored allocation) s
  start s p h = unfixed_at stored allocation fits p

  long : length stored ≤ length (unfixed stored allocation)
  long = omega (arith, unfixed_length stored allocation fits)

  single_works : (f : Fixup) → f.additive ≡ true → Inside stored (site_of f f.site) → (own (Ok (Some f)) ≡ site_of f f.site ∷ []) × Works (Ok (Some f))
  single_works f additive inside =
      let some : 1 ≤ length stored = omega (arith, inside, wide f.kind f.additive) in
      let is = (single_step stored (length (unfixed stored allocation)) f f.site (unfixed stored allocation) additive (omega (arith, long)) long inside (start (site_of f f.site))).1 in
      (is, λ b fit same. rw is (single_step stored (length b) f f.site b additive (omega arith) fit inside (rw is at same).0).0)

  chain_works : (f : Fixup) (places : List ℕ) → f.additive ≡ false → Chain stored f.site places → All (Inside stored) (map (site_of f) places) → Pairs Apart (map (site_of f) places) → (own (Ok (Some f)) ≡ map (site_of f) places) × Works (Ok (Some f))
  chain_works f places chained c inside apart =
      let few = sites_few stored (map (site_of f) places) inside apart in
      let count = length-map places (site_of f) in
      let is = (chain_step stored f chained (length (unfixed stored allocation)) c (unfixed stored allocation) (omega (arith, long)) long inside apart (all_of (Same stored (unfixed stored allocation)) start (map (site_of f) places))).1 in
      (is, λ b fit same. rw is (chain_step stored f chained (length b) c b (omega arith) fit inside apart (rw is at same)).0)

  -- The sites of all records are each record's own, one behind the other.
  works : {actions : List (Result (Option Fixup) Refusal)} {sites : List Site} → Sites stored actions sites → All (Inside stored) sites → Pairs Apart sites → (gathered own actions ≡ sites) × All Works actions
  works none inside apart = (refl, tt)
  works (os rest) inside apart =
      let w = works rest inside apart in
      (w.0, ((λ b fit same. refl), w.1))
  works (refused why rest) inside apart =
      let w = works rest inside apart in
      (w.0, ((λ b fit same. refl), w.1))
  works (single f additive rest) inside apart =
      let one = single_works f additive inside.0 in
      let w = works rest inside.1 apart.1 in
      (rw (one.0, w.0), (one.1, w.1))
  works (chain f {places} {sites = sites} chained c rest) inside apart =
      let mine = map (site_of f) places in
      let one = chain_works f places chained c (all_front (Inside stored) mine sites inside) (pairs_front Apart mine sites apart) in
      let w = works rest (all_back (Inside stored) mine sites inside) (pairs_back Apart mine sites apart) in
      (rw (one.0, w.0), (one.1, w.1))

  -- The sites that the steps of all records find in the unfixed segment are the sites as stored.
  pub stored_sites : (actions : List (Result (Option Fixup) Refusal)) (sound : Sound stored actions) → gathered own actions ≡ sound.sites
  stored_sites actions sound = (works sound.theirs sound.inside sound.apart).0

  abbrev carry : Result (Option Fixup) Refusal → List ℕ → List ℕ
  carry a b = in_turn (put stored) (own a) b

  abbrev Clear : Result (Option Fixup) Refusal → Result (Option Fixup) Refusal → Type 0
  Clear a c = Across Apart (own a) (own c)

  clear_back : (a c : Result (Option Fixup) Refusal) → Clear a c → Clear c a
  clear_back a c h = across_back (own a) (own c) h

  -- A record's writing leaves the spans of the others as they were.
  untouched : (a c : Result (Option Fixup) Refusal) (b : List ℕ) → Clear a c → All (Same stored b) (own c) → All (Same stored (carry a b)) (own c)
  untouched a c b clear same = all_map (λ t. All (λ s. Apart s t) (own a) × Same stored b t) (Same stored (carry a b)) keeps (own c) (all_both (λ t. All (λ s. Apart s t) (own a)) (Same stored b) (own c) (all_swap Apart (own a) (own c) clear) same)
    where
      keeps : (t : Site) → All (λ s. Apart s t) (own a) × Same stored b t → Same stored (carry a b) t
      keeps t h p k = runs.kept place_of (written stored) (own a) b p (all_map (λ s. Apart s t) (λ s. runs.Hits place_of (written stored) p s → ⊥) (λ s j w. j p (written_in_span stored s p w) k) (own a) h.0) ∙ h.1 p k

  -- So all steps together write all sites.
  carried : (actions : List (Result (Option Fixup) Refusal)) (b : List ℕ) → All Works actions → Pairs Clear actions → length stored ≤ length b → All (λ a. All (Same stored b) (own a)) actions → in_turn step_of actions b ≡ in_turn carry actions b
  carried [] b w clear fit same = refl
  carried (a ∷ rest) b w clear fit same =
      let room : length stored ≤ length (carry a b) = omega (arith, runs.length_runs place_of (written stored) (own a) b) in
      let others = all_map (λ c. Clear a c × All (Same stored b) (own c)) (λ c. All (Same stored (carry a b)) (own c)) (λ c h. untouched a c b h.0 h.1) rest (all_both (Clear a) (λ c. All (Same stored b) (own c)) rest clear.0 same.1) in
      rw (w.0 b fit same.0) (carried rest (carry a b) w.1 clear.1 room others)

  swap : (a c : Result (Option Fixup) Refusal) → Clear a c → (b : List ℕ) → carry c (carry a b) ≡ carry a (carry c b)
  swap a c clear b = turns_exchange (put stored) (own a) (own c) (all_map (λ s. All (Apart s) (own c)) (λ s. All (Exchange (put stored) s) (own c)) (λ s h. all_map (Apart s) (Exchange (put stored) s) (λ t j. one s t j) (own c) h) (own a) clear) b
    where
      one : (s t : Site) → Apart s t → Exchange (put stored) s t
      one s t j = runs.exchange place_of (written stored) s t (λ p h k. j p (written_in_span stored s p h) (written_in_span stored t p k))

  in_order : (actions other : List (Result (Option Fixup) Refusal)) (sound : Sound stored actions) → Permᴰ actions other → in_turn step_of other (unfixed stored allocation) ≡ prepared stored allocation sound.sites
  in_order actions other sound d =
      let w = works sound.theirs sound.inside sound.apart in
      let clear : Pairs Clear actions = pairs_gathered own Apart actions (rw w.0 sound.apart) in
      let steps = carried other (unfixed stored allocation) (all_permuted Works d w.1) (pairs_permuted Clear clear_back d clear) long (all_of (λ a. All (Same stored (unfixed stored allocation)) (own a)) (λ a. all_of (Same stored (unfixed stored allocation)) start (own a)) other) in
      let reordered = turns_permuted Clear clear_back carry swap d clear (unfixed stored allocation) in
      let all = turns_gathered (put stored) own actions (unfixed stored allocation) in
      steps ∙ sym reordered ∙ sym all ∙ rw w.0

  -- All records, each once, each on the buffer that the last one left, in any order.
  pub every_order : (actions : List (Result (Option Fixup) Refusal)) (sound : Sound stored actions) (other : List (Result (Option Fixup) Refusal)) → Perm actions other → in_turn step_of other (unfixed stored allocation) ≡ prepared stored allocation sound.sites
  every_order actions sound other p = ∥∥₁_elim p (is_set (hedberg ℕ_discrete) _ _) (λ d. in_order actions other sound d)
