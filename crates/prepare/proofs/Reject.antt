-- Demand 1: what a refused request gets.
--     bad_record   where going over the records stops, it is at the bad one
--     rejected     the refusal's number, beside it at most the bad record's; output as it came, marks all zeros
--     never_26     24 or 25 always comes before 26, so it is never given: over all images that consist of bytes
-- Assumes nothing.
use Rattle.std.specs.Prelude.{Ok, Some}
use mathlib.Core.Path.{◌≡◌, refl, sym, ◌∙◌}
use mathlib.Core.Logic.{◌⊎◌, inl, inr}
use mathlib.Core.List.{List, []}
use Prim.Native.Nat.{ℕ, suc, ◌-◌}
use native.Mathlib.Omega.{arith}
use Rattle.le.specs.Number.{Bytes}
use Rattle.lists.specs.Lists.{each}
use Rattle.checks.proofs.Impossible.{never}
use Rattle.refusal.specs.Number.{Between}
use Rattle.refusal.specs.declared.Refusal.{Refusal}
use Rattle.refusal.specs.declared.Refusal.TheVariants.{SitesOver}
use Rattle.header.specs.declared.Header.{Header}
use Rattle.header.proofs.Why as header
use Rattle.segment.specs.declared.Segment.{Segment}
use Rattle.segment.proofs.Why as segment
use Rattle.entry.specs.Ordinal.{table_bytes}
use Rattle.entry.proofs.Why as entry
use Rattle.fixup.specs.Action.{RefusedAs}
use Rattle.fixup.proofs.Resolves.{refused_as, refused_number}
use Rattle.site.specs.Site.{Site}
use Rattle.site.specs.BadSite.{Bad, outside, taken, BadSite}
use Rattle.site.specs.Walk.{Walk, Walked, Stopped}
use Rattle.site.specs.declared.Fixup.{Fixup}
use Rattle.site.proofs.Accept.{accepted_sound, sound_accepted}
use Rattle.site.proofs.Stop as stop
use Rattle.site.proofs.Stop.{StopsAt, stops}
use Rattle.prepare.specs.Prepare.{Request, Refused, stored_of, record_in, action_in, import_answer, walked_of, outcome_of, prepare_of, refuse}
use Rattle.prepare.specs.Sound.{Ready, Sound}
use Rattle.prepare.specs.Rejected.{Short, selectors_short, answers_short, output_short, marks_short, Early, by_header, by_number, by_entries, by_segment, by_size, first_records, BadRecord, Beside, nothing, its_number, Rejected}
use Rattle.prepare.proofs.Ready.{walked, IsEarly, IsWalked, came}
use Rattle.prepare.proofs.Accept.{stored_small, from_sites, to_sites}

-- The numbers of the refusals before the records, and at them.
short_number : {q : Request} {h : Header} {s : Segment} {why : Refusal} → Short q h s why → Between 21 21 why
short_number (selectors_short k) = omega arith
short_number (answers_short k) = omega arith
short_number (output_short k) = omega arith
short_number (marks_short k) = omega arith

early_number : {q : Request} {why : Refusal} → Early q why → Between 1 21 why
early_number {q} {why} (by_header e) = omega (arith, header.refused q.image why e)
early_number (by_number h e lacking) = omega arith
early_number {q} {why} (by_entries h n unsound) = omega (arith, entry.refused (table_bytes q.image h) h.segments.count why unsound)
early_number {q} {why} (by_segment h bundles n sound refused) = omega (arith, segment.refused q.image h (q.number - 1) why refused)
early_number (by_size h s found short) = omega (arith, short_number short)

bad_number : {stored : List ℕ} {earlier : List Site} {x : Site} {why : Refusal} → Bad stored earlier x why → Between 24 25 why
bad_number (outside n) = omega arith
bad_number (taken k n) = omega arith

record_number : (q : Request) (h : Header) (s : Segment) (index : ℕ) (why : Refusal) → BadRecord q h s index why → Between 22 25 why
record_number q h s index why b = go b.because
  where
    go : RefusedAs q.image h (record_in q s index) why ⊎ ((f : Fixup) × (action_in q h s index ≡ Ok (Some f)) × BadSite (stored_of q s) b.before.sites f why) → Between 22 25 why
    go (inl r) = omega (arith, refused_number r)
    go (inr w) = omega (arith, bad_number w.2.bad)

module _ (q : Request) (bytes : Bytes q.image) (h : Header) (s : Segment) (ready : Ready q h s) (why : Refusal) (number : ℕ) where
  module _ (st : StopsAt (stored_of q s) s.records (action_in q h s) 1 [] why number) where
    before : (sound : Sound q h (first_records st.index s)) × (st.sites ≡ sound.sites)
    unfolding from_sites
    before =
        let a = accepted_sound (stored_of q s) (each st.index (action_in q h s)) st.sites st.before in
        (from_sites q h (first_records st.index s) a.0, a.1)

    with_it : Sound q h (first_records (suc st.index) s) → ⊥
    unfolding to_sites
    with_it sound =
        let walk = sound_accepted (stored_of q s) (each (suc st.index) (action_in q h s)) (to_sites q h (first_records (suc st.index) s) ready.selectors sound) (stored_small q h s ready bytes) in
        let z = sym walk ∙ st.there in
        never cc

    because : (sites : List Site) → st.sites ≡ sites → RefusedAs q.image h (record_in q s st.index) why ⊎ ((f : Fixup) × (action_in q h s st.index ≡ Ok (Some f)) × BadSite (stored_of q s) sites f why)
    because sites e = go (rw e at st.because)
      where
        go : stop.Because (stored_of q s) sites (action_in q h s st.index) why → RefusedAs q.image h (record_in q s st.index) why ⊎ ((f : Fixup) × (action_in q h s st.index ≡ Ok (Some f)) × BadSite (stored_of q s) sites f why)
        go (inl r) = inl (refused_as q.image h q.selectors (import_answer q st.index) (record_in q s st.index) ready.selectors why r)
        go (inr w) = inr w

    pub bad_record : BadRecord q h s st.index why
    bad_record = record { listed = st.within; before = before.0; with_it = with_it; because = because before.0.sites before.1 }

same_parts : {why why' : Refusal} {n n' : ℕ} → Refused why n ≡ Refused why' n' → (why ≡ why') × (n ≡ n')
same_parts e = (cc, cc)

pub rejected : (q : Request) → Bytes q.image → (why : Refusal) (number : ℕ) → prepare_of q ≡ Refused why number → Rejected q why number
unfolding prepare_of
rejected q bytes why number e = record { beside = beside (rw e at (came q refuse (walked q))); output = λ before. rw e; marks = λ before. rw e }
  where
    stopped : (h : Header) (s : Segment) → Ready q h s → (w : Walk) → walked_of q h s ≡ w → outcome_of q s w ≡ Refused why number → Beside q why number
    stopped h s ready (Walked sites) p z = never cc
    stopped h s ready (Stopped reason at) p z =
        let part : (reason ≡ why) × (at ≡ number) = same_parts z in
        let st = stops (stored_of q s) (stored_small q h s ready bytes) s.records (action_in q h s) why number (rw (part.0, part.1) at p) in
        let bad = bad_record q bytes h s ready why number st in
        let from_one : number ≡ suc st.index = omega (arith, st.numbered) in
        rw from_one (its_number h s (omega (arith, record_number q h s st.index why bad)) ready bad)

    beside : IsEarly q refuse (walked q) (Refused why number) ⊎ IsWalked q (Refused why number) → Beside q why number
    beside (inl r) =
        let part : (r.0 ≡ why) × (0 ≡ number) = same_parts r.2 in
        let early = rw part.0 at r.1 in
        rw (← part.1) (nothing (early_number early) early)
    beside (inr w) = stopped w.0 w.1 w.2 (walked_of q w.0 w.1) refl w.3

pub never_26 : (q : Request) → Bytes q.image → (number : ℕ) → prepare_of q ≡ Refused SitesOver number → ⊥
never_26 q bytes number e = go (rejected q bytes SitesOver number e).beside
  where
    go : {n : ℕ} → Beside q SitesOver n → ⊥
    go (nothing between early) = omega arith
    go (its_number {index} h s between ready bad) = omega (arith, record_number q h s index SitesOver bad)
