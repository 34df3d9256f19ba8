-- What the selectors and the import answers are decides the bytes alone: with any lists of the same lengths the refusal and its
-- record, or the site count and the marks, are the same.
--     same_but_bytes   of any two calls
--     same_acceptance  so where one is accepted, the other is too
-- Assumes nothing.
use mathlib.Core.Path.{◌≡◌, refl, sym, ap, ◌∙◌}
use mathlib.Core.Bool.{true, false}
use mathlib.Core.List.{List, [], ◌∷◌, map}
use Prim.Native.Nat.{ℕ}
use lib.ListN.{length, get_or, length-map}
use Rattle.checks.specs.Checks.{Check, ◌⇒◌, decide}
use Rattle.refusal.specs.declared.Refusal.{Refusal}
use Rattle.checks.proofs.Impossible.{never}
use Rattle.lists.proofs.Each.{each_same, each_mapped}
use Rattle.header.specs.declared.Header.{Header}
use Rattle.segment.specs.declared.Segment.{Segment}
use Rattle.fixup.proofs.Agree.{same_shape}
use Rattle.site.specs.Walk.{Walk, Walked, Stopped, walk_of}
use Rattle.site.proofs.Shape.{blank_action, blank_walk, walk_blank, marks_blank}
use Rattle.prepare.specs.Prepare.{Request, Outcome, Prepared, Refused, refuse, stored_of, record_in, action_in, import_answer, actions_of, size_checks, walked_of, outcome_of, prepare_of}
use Rattle.prepare.specs.Sound.{Accepts}
use Rattle.prepare.specs.Alike.{with_lists, but_bytes}
use Rattle.prepare.proofs.Ready.{walked, sized}
use Rattle.prepare.proofs.Related.{related}

decide_but : (checks : List (Check Refusal)) (a b : Outcome) → but_bytes a ≡ but_bytes b → but_bytes (decide refuse checks a) ≡ but_bytes (decide refuse checks b)
decide_but [] a b e = e
decide_but ((true ⇒ why) ∷ rest) a b e = refl
decide_but ((false ⇒ why) ∷ rest) a b e = decide_but rest a b e

module _ (q : Request) (selectors answers : List ℕ) (as_many_selectors : length q.selectors ≡ length selectors) (as_many_answers : length q.answers ≡ length answers) where
  abbrev other : Request
  other = with_lists q selectors answers

  same_actions : (h : Header) (s : Segment) → map blank_action (actions_of q h s) ≡ map blank_action (actions_of other h s)
  same_actions h s =
      each_mapped s.records (action_in q h s) blank_action
      ∙ each_same s.records (λ i. blank_action (action_in q h s i)) (λ i. blank_action (action_in (with_lists q selectors answers) h s i)) (λ i k. same_shape q.selectors selectors (import_answer q i) (get_or answers i 0) (record_in q s i) as_many_selectors q.image h)
      ∙ sym (each_mapped s.records (action_in (with_lists q selectors answers) h s) blank_action)

  same_walk : (h : Header) (s : Segment) → blank_walk (walked_of q h s) ≡ blank_walk (walked_of other h s)
  same_walk h s = walk_blank (stored_of q s) (actions_of q h s) ∙ ap (walk_of (stored_of q s)) (same_actions h s) ∙ sym (walk_blank (stored_of q s) (actions_of other h s))

  -- But for its bytes, an outcome looks at no address.
  outcome_blank : (r : Request) (s : Segment) (w : Walk) → but_bytes (outcome_of r s w) ≡ but_bytes (outcome_of r s (blank_walk w))
  outcome_blank r s (Walked sites) = simp (length-map, marks_blank)
  outcome_blank r s (Stopped why number) = refl

  other_blank : (s : Segment) (w : Walk) → but_bytes (outcome_of q s w) ≡ but_bytes (outcome_of other s w)
  other_blank s (Walked sites) = refl
  other_blank s (Stopped why number) = refl

  same_walked : (h : Header) (s : Segment) → but_bytes (walked q h s) ≡ but_bytes (walked other h s)
  same_walked h s =
      outcome_blank q s (walked_of q h s)
      ∙ ap (λ (w : Walk). but_bytes (outcome_of q s w)) (same_walk h s)
      ∙ other_blank s (blank_walk (walked_of other h s))
      ∙ sym (outcome_blank other s (walked_of other h s))

  same_sizes : (h : Header) (s : Segment) → size_checks q h s ≡ size_checks other h s
  unfolding size_checks
  same_sizes h s = rw (as_many_selectors, as_many_answers)

  same_sized : (h : Header) (s : Segment) → but_bytes (sized q h s) ≡ but_bytes (sized other h s)
  same_sized h s = rw (same_sizes h s) (decide_but (size_checks other h s) (walked q h s) (walked other h s) (same_walked h s))

  pub same_but_bytes : but_bytes (prepare_of q) ≡ but_bytes (prepare_of other)
  same_but_bytes = related q selectors answers (λ o p. but_bytes o ≡ but_bytes p) (λ o. refl) (λ h s header record'. same_sized h s)

accepted_but : (o o' : Outcome) → but_bytes o ≡ but_bytes o' → (count : ℕ) (bytes marks : List ℕ) → o ≡ Prepared count bytes marks → (bytes' : List ℕ) × (o' ≡ Prepared count bytes' marks)
accepted_but (Prepared n b m) (Prepared n' b' m') e count bytes marks p =
    let a : n' ≡ count = cc in
    let c : m' ≡ marks = cc in
    (b', rw (a, c))
accepted_but (Prepared n b m) (Refused why number) e count bytes marks p = never cc
accepted_but (Refused why number) o' e count bytes marks p = never cc

pub same_acceptance : (q : Request) (selectors answers : List ℕ) → length q.selectors ≡ length selectors → length q.answers ≡ length answers → Accepts q → Accepts (with_lists q selectors answers)
same_acceptance q selectors answers e k a =
    let found = accepted_but (prepare_of q) (prepare_of (with_lists q selectors answers)) (same_but_bytes q selectors answers e k) a.0 a.1 a.2 a.3 in
    (a.0, found.0, a.2, found.1)
