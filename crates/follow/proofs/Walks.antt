-- The pass over the sites of a fixup answers what following them means, and leaves the marks of all sites and all of them written.
-- Assumes nothing.
use Rattle.std.specs.Prelude.{Result, Ok, Err}
use mathlib.Core.Path.{◌≡◌, refl, sym}
use mathlib.Core.Bool.{Bool, true, false, cond}
use mathlib.Core.List.{List, [], ◌∷◌, ◌++◌}
use Prim.Native.Nat.{ℕ, zero, suc}
use native.Mathlib.Omega.{arith}
use lib.Dec.{ltb}
use lib.ListN.{length, length-append}
use Rattle.le.specs.Number.{word_at}
use Rattle.checks.specs.Checks.{◌⇒◌, decide}
use Rattle.refusal.specs.declared.Refusal.{Refusal}
use Rattle.refusal.specs.declared.Refusal.TheVariants.{SpanOutside, SpanTaken}
use Rattle.lists.specs.Lists.{in_turn}
use Rattle.lists.proofs.Order.{turns_append}
use Rattle.site.specs.Site.{Site, site_of, width_of, end_of, put}
use Rattle.site.specs.Prepared.{mark, marked}
use Rattle.site.specs.Walk.{meets_one, is_last, follow_from, followed}
use Rattle.site.specs.declared.Fixup.{Fixup}
use Rattle.site.proofs.Meets.{Good, good_more}
use Rattle.claim.specs.Internal.{taken}
use Rattle.follow.specs.Internal.{Pass, passed, with_span, pass_from, pass_of}
use Rattle.follow.proofs.Marks.{marks_length, taken_meets}

module _ (stored : List ℕ) where
  -- The marks of some sites, and the stored bytes with these sites written.
  abbrev pub marks_of : List Site → List ℕ
  marks_of sites = marked (length stored) sites

  abbrev pub written_of : List Site → List ℕ
  written_of sites = in_turn (put stored) sites stored

  -- What a pass gave, where following the sites gives that.
  abbrev pub Ties : Result (List Site) Refusal → Pass → Type 0
  Ties (Ok sites) p = p ≡ passed (Ok (length sites)) (marks_of sites) (written_of sites)
  Ties (Err why) p = p.answer ≡ Err why

  abbrev halted : List ℕ → List ℕ → Refusal → Pass
  halted marks bytes why = passed (Err why) marks bytes

  -- The two checks of a site decide alike.
  checks_tie : (past met taken : Bool) (marks bytes : List ℕ) → taken ≡ met → (answer : Result (List Site) Refusal) (pass : Pass) → (past ≡ false → met ≡ false → Ties answer pass) → Ties (decide Err ((past ⇒ SpanOutside) ∷ (met ⇒ SpanTaken) ∷ []) answer) (decide (halted marks bytes) ((past ⇒ SpanOutside) ∷ (taken ⇒ SpanTaken) ∷ []) pass)
  checks_tie true met taken marks bytes e answer pass h = refl
  checks_tie false true taken marks bytes e answer pass h = rw e refl
  checks_tie false false taken marks bytes e answer pass h = rw e (h refl refl)

  module _ (f : Fixup) where
    -- One site more.
    more : (at : ℕ) (earlier : List Site) → (suc (length earlier) ≡ length (earlier ++ site_of f at ∷ [])) × (with_span f at (marks_of earlier) ≡ marks_of (earlier ++ site_of f at ∷ [])) × (put stored (site_of f at) (written_of earlier) ≡ written_of (earlier ++ site_of f at ∷ []))
    more at earlier =
        (omega (arith, length-append earlier (site_of f at ∷ [])), sym (turns_append mark earlier (site_of f at ∷ []) _), sym (turns_append (put stored) earlier (site_of f at ∷ []) stored))

    last_tie : (last : Bool) (at : ℕ) (earlier : List Site) (onward : Result (List Site) Refusal) (pass : Pass) → Ties onward pass → Ties (cond last (Ok (earlier ++ site_of f at ∷ [])) onward) (cond last (passed (Ok (suc (length earlier))) (with_span f at (marks_of earlier)) (put stored (site_of f at) (written_of earlier))) pass)
    last_tie true at earlier onward pass t = let m = more at earlier in rw (m.0, m.1, m.2)
    last_tie false at earlier onward pass t = t

    onward_tie : (left at : ℕ) (earlier : List Site) (onward : Result (List Site) Refusal) → Ties onward (pass_from left stored f (word_at stored at) (length (earlier ++ site_of f at ∷ [])) (marks_of (earlier ++ site_of f at ∷ [])) (written_of (earlier ++ site_of f at ∷ []))) → Ties onward (pass_from left stored f (word_at stored at) (suc (length earlier)) (with_span f at (marks_of earlier)) (put stored (site_of f at) (written_of earlier)))
    onward_tie left at earlier onward t = let m = more at earlier in rw (m.0, m.1, m.2) t

    pub ties : (left at : ℕ) (earlier : List Site) → Good stored earlier → Ties (follow_from left stored f at earlier) (pass_from left stored f at (length earlier) (marks_of earlier) (written_of earlier))
    unfolding follow_from pass_from
    ties zero at earlier g =
        rw (marks_length stored earlier g)
        (checks_tie (ltb (length stored) (end_of (site_of f at))) (meets_one (site_of f at) earlier) (taken (width_of f.kind f.additive) (marks_of earlier) at) (marks_of earlier) (written_of earlier) (taken_meets stored earlier g (site_of f at)) _ _ (λ inside free. refl))
    ties (suc left) at earlier g =
        rw (marks_length stored earlier g)
        (checks_tie (ltb (length stored) (end_of (site_of f at))) (meets_one (site_of f at) earlier) (taken (width_of f.kind f.additive) (marks_of earlier) at) (marks_of earlier) (written_of earlier) (taken_meets stored earlier g (site_of f at)) _ _ (λ inside free. last_tie (is_last f (word_at stored at)) at earlier _ _ (onward_tie left at earlier (follow_from left stored f (word_at stored at) (earlier ++ site_of f at ∷ [])) (ties left (word_at stored at) (earlier ++ site_of f at ∷ []) (good_more stored earlier (site_of f at) g inside free)))))

    pub all_tie : (earlier : List Site) → Good stored earlier → Ties (followed stored f earlier) (pass_of stored f (length earlier) (marks_of earlier) (written_of earlier))
    all_tie earlier g = ties _ f.site earlier g
