-- Two calls whose lists are alike give equal results, buffers included; accepted or refused.
-- Assumes nothing.
use Rattle.std.specs.Prelude.{Ok}
use mathlib.Core.Path.{◌≡◌, refl}
use mathlib.Core.List.{List}
use Prim.Native.Nat.{ℕ, ◌-◌}
use lib.ListN.{get_or}
use Rattle.lists.proofs.Each.{each_same}
use Rattle.header.specs.Header.{header_of}
use Rattle.header.specs.declared.Header.{Header}
use Rattle.segment.specs.Segment.{record_of}
use Rattle.segment.specs.declared.Segment.{Segment}
use Rattle.fixup.proofs.Agree.{agree}
use Rattle.site.specs.Walk.{Walk, Walked, Stopped}
use Rattle.prepare.specs.Prepare.{Request, record_in, action_in, import_answer, actions_of, size_checks, walked_of, outcome_of, prepare_of}
use Rattle.prepare.specs.Alike.{with_lists, Alike}
use Rattle.prepare.proofs.Ready.{sized}
use Rattle.prepare.proofs.Related.{related}

module _ (q : Request) (selectors answers : List ℕ) (alike : Alike q selectors answers) where
  -- An outcome looks at the lists only through the walk.
  same_outcome : (s : Segment) (w : Walk) → outcome_of q s w ≡ outcome_of (with_lists q selectors answers) s w
  same_outcome s (Walked sites) = refl
  same_outcome s (Stopped why number) = refl

  same_segment : (h : Header) (s : Segment) → header_of q.image ≡ Ok h → record_of q.image h (q.number - 1) ≡ Ok s → sized q h s ≡ sized (with_lists q selectors answers) h s
  unfolding size_checks
  same_segment h s header record' =
      let actions : actions_of q h s ≡ actions_of (with_lists q selectors answers) h s = each_same s.records (action_in q h s) (action_in (with_lists q selectors answers) h s) (λ i k. agree q.selectors selectors (import_answer q i) (get_or answers i 0) (record_in q s i) alike.as_many_selectors q.image h (alike.agree h s header record' i k)) in
      rw (alike.as_many_selectors, alike.as_many_answers, actions, same_outcome s (walked_of (with_lists q selectors answers) h s))

  pub independent : prepare_of q ≡ prepare_of (with_lists q selectors answers)
  independent = related q selectors answers (λ o p. o ≡ p) (λ o. refl) same_segment
