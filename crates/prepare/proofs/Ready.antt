-- What the checks before the records say.
--     is_walked   where they are passed, preparing answers what going over the records gives
--     came        whoever goes on from them is told a refusal from before the records, or that they are passed
--     was_ready   so what preparing doesn't refuse has passed them
--     ready_map   what is done with what follows can be done at its end
-- Assumes nothing.
use Rattle.std.specs.Prelude.{Result, Ok, Err}
use mathlib.Core.Path.{◌≡◌, refl}
use mathlib.Core.Logic.{◌⊎◌, inl, inr}
use mathlib.Core.Bool.{true, false}
use mathlib.Core.List.{List, [], ◌∷◌}
use Prim.Native.Nat.{ℕ, ◌-◌}
use borrow.Author.Tests.{ltb-true, ltb-false, le-ltb}
use Rattle.checks.specs.Checks.{Check, ◌⇒◌, decide}
use Rattle.checks.specs.Internal.{Passed}
use Rattle.checks.proofs.Checks.{decided, tried}
use Rattle.checks.proofs.Impossible.{never}
use Rattle.refusal.specs.declared.Refusal.{Refusal}
use Rattle.refusal.specs.declared.Refusal.TheVariants.{NoSuchNumber}
use Rattle.header.specs.Header.{header_of, lacks}
use Rattle.checks.specs.Onward.{on_result}
use Rattle.header.specs.declared.Header.{Header}
use Rattle.segment.specs.Segment.{record_of}
use Rattle.segment.specs.declared.Segment.{Segment}
use Rattle.tables.specs.Table as tables
use Rattle.tables.specs.Table.{on_table}
use Rattle.bundle.specs.declared.Bundle.{Bundle}
use Rattle.entry.specs.Table.{EntryTable}
use Rattle.prepare.specs.Prepare.{Request, Outcome, Prepared, refuse, walked_of, entries_of, size_checks, outcome_of, on_ready, prepare_of}
use Rattle.prepare.specs.Sound.{Numbered, Found, Ready}
use Rattle.prepare.specs.Rejected.{Short, selectors_short, answers_short, output_short, marks_short, Early, by_header, by_number, by_entries, by_segment, by_size}

-- What going over the records gives.
abbrev pub walked : Request → Header → Segment → Outcome
walked q h s = outcome_of q s (walked_of q h s)

-- What follows of a segment.
abbrev pub sized : Request → Header → Segment → Outcome
sized q h s = decide refuse (size_checks q h s) (walked q h s)

-- Whoever goes on from the checks, with a refusal and with what follows of the header and the segment.
module _ (q : Request) {A : Type 0} (refuse : Refusal → A) (go : Header → Segment → A) where
  -- A refusal from before the records, and what follows.
  abbrev pub IsEarly : A → Type 0
  IsEarly o = (why : Refusal) × Early q why × (refuse why ≡ o)

  abbrev pub IsReady : A → Type 0
  IsReady o = (h : Header) × (s : Segment) × Ready q h s × (go h s ≡ o)

  abbrev Came : A → Type 0
  Came o = IsEarly o ⊎ IsReady o

  early : {why : Refusal} → Early q why → Came (refuse why)
  early {why} e = inl (why, e, refl)

  -- What follows of a segment.
  abbrev sized_on : Header → Segment → A
  sized_on h s = decide refuse (size_checks q h s) (go h s)

  -- What follows of a header whose segment table has the number.
  abbrev numbered : Header → A
  numbered h = on_table (entries_of q h) refuse (λ bundles. on_result (record_of q.image h (q.number - 1)) refuse (sized_on h))

  of_segment : (h : Header) (s : Segment) → Found q h s → Came (sized_on h s)
  unfolding size_checks
  of_segment h s found = tried refuse Came (size_checks q h s) (go h s) ((λ e. short (selectors_short (ltb-true _ _ e))), (λ a. ((λ e. short (answers_short (ltb-true _ _ e))), (λ b. ((λ e. short (output_short (ltb-true _ _ e))), (λ c. ((λ e. short (marks_short (ltb-true _ _ e))), (λ d. tt)))))))) fits
    where
      short : {why : Refusal} → Short q h s why → Came (refuse why)
      short t = early (by_size h s found t)

      fits : Passed (size_checks q h s) → Came (go h s)
      fits p = inr (h, s, record { found = found; selectors = ltb-false _ _ p.0; answers = ltb-false _ _ p.1.0; output = ltb-false _ _ p.1.1.0; marks = ltb-false _ _ p.1.1.1.0 }, refl)

  of_number : (h : Header) → Numbered q h → Came (numbered h)
  of_number h n = over (entries_of q h) refl
    where
      of_record : (bundles : List Bundle) → entries_of q h ≡ tables.Sound bundles → (a : Result Segment Refusal) → record_of q.image h (q.number - 1) ≡ a → Came (on_result a refuse (sized_on h))
      of_record bundles sound (Ok s) e = of_segment h s (record { numbered = n; bundles = bundles; entries = sound; segment = e })
      of_record bundles sound (Err why) e = early (by_segment h bundles n sound e)

      over : (t : EntryTable) → entries_of q h ≡ t → Came (on_table t refuse (λ bundles. on_result (record_of q.image h (q.number - 1)) refuse (sized_on h)))
      over (tables.Sound bundles) e = of_record bundles e (record_of q.image h (q.number - 1)) refl
      over (tables.Unsound why) e = early (by_entries h n e)

  pub came : Came (on_ready q refuse go)
  came = over (header_of q.image) refl
    where
      over : (a : Result Header Refusal) → header_of q.image ≡ a → Came (on_ready q refuse go)
      over (Ok h) e = rw e (tried refuse Came ((lacks h.segments.count q.number ⇒ NoSuchNumber) ∷ []) (numbered h) ((λ lacking. early (by_number h e lacking)), (λ has. tt)) (λ p. of_number h (record { header = e; number = p.0 })))
      over (Err why) e = rw e (early (by_header e))

-- What is done with what follows can be done at its end.
module _ (q : Request) {A B : Type 0} (f : A → B) (refuse : Refusal → A) (go : Header → Segment → A) where
  of_checks : (checks : List (Check Refusal)) (a : A) → decide (λ why. f (refuse why)) checks (f a) ≡ f (decide refuse checks a)
  of_checks [] a = refl
  of_checks ((true ⇒ why) ∷ checks) a = refl
  of_checks ((false ⇒ why) ∷ checks) a = of_checks checks a

  map_segment : (h : Header) (a : Result Segment Refusal) → on_result a (λ why. f (refuse why)) (λ s. decide (λ why. f (refuse why)) (size_checks q h s) (f (go h s))) ≡ f (on_result a refuse (λ s. decide refuse (size_checks q h s) (go h s)))
  map_segment h (Ok s) = of_checks (size_checks q h s) (go h s)
  map_segment h (Err why) = refl

  map_table : (h : Header) (t : EntryTable) → on_table t (λ why. f (refuse why)) (λ bundles. on_result (record_of q.image h (q.number - 1)) (λ why. f (refuse why)) (λ s. decide (λ why. f (refuse why)) (size_checks q h s) (f (go h s)))) ≡ f (on_table t refuse (λ bundles. on_result (record_of q.image h (q.number - 1)) refuse (λ s. decide refuse (size_checks q h s) (go h s))))
  map_table h (tables.Sound bundles) = map_segment h (record_of q.image h (q.number - 1))
  map_table h (tables.Unsound why) = refl

  pub ready_map : on_ready q (λ why. f (refuse why)) (λ h s. f (go h s)) ≡ f (on_ready q refuse go)
  ready_map = over (header_of q.image)
    where
      over : (a : Result Header Refusal) → on_result a (λ why. f (refuse why)) (λ h. decide (λ why. f (refuse why)) ((lacks h.segments.count q.number ⇒ NoSuchNumber) ∷ []) (on_table (entries_of q h) (λ why. f (refuse why)) (λ bundles. on_result (record_of q.image h (q.number - 1)) (λ why. f (refuse why)) (λ s. decide (λ why. f (refuse why)) (size_checks q h s) (f (go h s)))))) ≡ f (on_result a refuse (λ h. decide refuse ((lacks h.segments.count q.number ⇒ NoSuchNumber) ∷ []) (on_table (entries_of q h) refuse (λ bundles. on_result (record_of q.image h (q.number - 1)) refuse (λ s. decide refuse (size_checks q h s) (go h s))))))
      over (Ok h) = rw (map_table h (entries_of q h)) (of_checks ((lacks h.segments.count q.number ⇒ NoSuchNumber) ∷ []) _)
      over (Err why) = refl

-- Preparing goes over the records.
abbrev pub IsWalked : Request → Outcome → Type 0
IsWalked q o = IsReady q refuse (walked q) o

module _ (q : Request) where
  pub was_ready : (sites : ℕ) (bytes marks : List ℕ) → prepare_of q ≡ Prepared sites bytes marks → IsWalked q (Prepared sites bytes marks)
  unfolding prepare_of
  was_ready sites bytes marks e = go (rw e at (came q refuse (walked q)))
    where
      go : (IsEarly q refuse (walked q) (Prepared sites bytes marks) ⊎ IsWalked q (Prepared sites bytes marks)) → IsWalked q (Prepared sites bytes marks)
      go (inl r) = let z = r.2 in never cc
      go (inr w) = w

-- The other way.
sizes : (q : Request) (h : Header) (s : Segment) → Ready q h s → Passed (size_checks q h s)
unfolding size_checks
sizes q h s r = (le-ltb _ _ r.selectors, (le-ltb _ _ r.answers, (le-ltb _ _ r.output, (le-ltb _ _ r.marks, tt))))

pub is_walked : (q : Request) (h : Header) (s : Segment) → Ready q h s → prepare_of q ≡ walked q h s
unfolding prepare_of
is_walked q h s r = rw (r.found.numbered.header, r.found.numbered.number, r.found.entries, r.found.segment) (decided refuse (size_checks q h s) (walked q h s) (sizes q h s r))
