-- What a walk finds doesn't depend on the addresses that the targets resolved to: with all of them 0, it stops for the same
-- reason at the same record, or finds as many sites with the same marks.
-- Assumes nothing.
use Rattle.std.specs.Prelude.{Result, Ok, Err, Option, Some, None}
use mathlib.Core.Path.{◌≡◌, refl}
use mathlib.Core.Bool.{Bool, true, false, cond}
use mathlib.Core.List.{List, [], ◌∷◌, ◌++◌, map, map-append}
use Prim.Native.Nat.{ℕ, zero, suc, ◌-◌}
use lib.Dec.{ltb}
use lib.ListN.{length, length-map}
use Rattle.le.specs.Number.{word_at}
use Rattle.le.specs.Slice.{zeros}
use Rattle.lists.specs.Lists.{in_turn}
use Rattle.refusal.specs.declared.Refusal.TheVariants.{SpanOutside, SpanTaken, SitesOver}
use Rattle.site.specs.Site.{Site, site_of, end_of}
use Rattle.site.specs.Walk.{meets_one, is_last, follow_from, followed, Walk, Walked, Stopped, walk_from, walk_of}
use Rattle.site.specs.Prepared.{mark, marked}
use Rattle.site.specs.declared.Fixup.{Fixup}
use Rattle.refusal.specs.declared.Refusal.{Refusal}
use Rattle.checks.specs.Onward.{on_result}

-- Without an address.
abbrev pub blank : Fixup → Fixup
blank f = record { kind = f.kind; additive = f.additive; site = f.site; offset = 0; selector = 0 }

abbrev pub blank_action : Result (Option Fixup) Refusal → Result (Option Fixup) Refusal
blank_action (Ok None) = Ok None
blank_action (Err why) = Err why
blank_action (Ok (Some f)) = Ok (Some (blank f))

abbrev pub blank_site : Site → Site
blank_site s = site_of (blank s.fixup) s.at

abbrev blank_followed : Result (List Site) Refusal → Result (List Site) Refusal
blank_followed (Ok sites) = Ok (map blank_site sites)
blank_followed (Err why) = Err why

abbrev pub blank_walk : Walk → Walk
blank_walk (Walked sites) = Walked (map blank_site sites)
blank_walk (Stopped why number) = Stopped why number

meets_blank : (s : Site) (ts : List Site) → meets_one (blank_site s) (map blank_site ts) ≡ meets_one s ts
meets_blank s [] = refl
meets_blank s (t ∷ ts) = rw (meets_blank s ts)

module _ (stored : List ℕ) where
  follow_blank : (left : ℕ) (f : Fixup) (at : ℕ) (earlier : List Site) → blank_followed (follow_from left stored f at earlier) ≡ follow_from left stored (blank f) at (map blank_site earlier)
  unfolding follow_from
  follow_blank zero f at earlier = rw (meets_blank (site_of f at) earlier) (go (ltb (length stored) (end_of (site_of f at))) (meets_one (site_of f at) earlier))
    where
      go : (outside taken : Bool) → blank_followed (cond outside (Err SpanOutside) (cond taken (Err SpanTaken) (Err SitesOver))) ≡ cond outside (Err SpanOutside) (cond taken (Err SpanTaken) (Err SitesOver))
      go true taken = refl
      go false true = refl
      go false false = refl
  follow_blank (suc left) f at earlier =
      rw (meets_blank (site_of f at) earlier, ← (map-append blank_site earlier (site_of f at ∷ [])))
      (go (ltb (length stored) (end_of (site_of f at))) (meets_one (site_of f at) earlier) (is_last f (word_at stored at)) (follow_blank left f (word_at stored at) (earlier ++ site_of f at ∷ [])))
    where
      sites : List Site
      sites = earlier ++ site_of f at ∷ []

      go : (outside taken done : Bool) → blank_followed (follow_from left stored f (word_at stored at) sites) ≡ follow_from left stored (blank f) (word_at stored at) (map blank_site sites) → blank_followed (cond outside (Err SpanOutside) (cond taken (Err SpanTaken) (cond done (Ok sites) (follow_from left stored f (word_at stored at) sites)))) ≡ cond outside (Err SpanOutside) (cond taken (Err SpanTaken) (cond done (Ok (map blank_site sites)) (follow_from left stored (blank f) (word_at stored at) (map blank_site sites))))
      go true taken done ih = refl
      go false true done ih = refl
      go false false true ih = refl
      go false false false ih = ih

  walk_from_blank : (actions : List (Result (Option Fixup) Refusal)) (number : ℕ) (earlier : List Site) → blank_walk (walk_from stored actions number earlier) ≡ walk_from stored (map blank_action actions) number (map blank_site earlier)
  unfolding walk_from
  walk_from_blank [] number earlier = refl
  walk_from_blank (Ok None ∷ actions) number earlier = walk_from_blank actions (suc number) earlier
  walk_from_blank (Err why ∷ actions) number earlier = refl
  walk_from_blank (Ok (Some f) ∷ actions) number earlier =
      rw (length-map earlier blank_site, ← (follow_blank (65536 - length earlier) f f.site earlier)) (go (followed stored f earlier) (λ sites. walk_from_blank actions (suc number) sites))
    where
      go : (w : Result (List Site) Refusal) → ((sites : List Site) → blank_walk (walk_from stored actions (suc number) sites) ≡ walk_from stored (map blank_action actions) (suc number) (map blank_site sites)) → blank_walk (on_result w (λ why. Stopped why number) (λ sites. walk_from stored actions (suc number) sites)) ≡ on_result (blank_followed w) (λ why. Stopped why number) (λ sites. walk_from stored (map blank_action actions) (suc number) sites)
      go (Ok sites) ih = ih sites
      go (Err why) ih = refl

  pub walk_blank : (actions : List (Result (Option Fixup) Refusal)) → blank_walk (walk_of stored actions) ≡ walk_of stored (map blank_action actions)
  walk_blank actions = walk_from_blank actions 1 []

marks_from_blank : (sites : List Site) (marks : List ℕ) → in_turn mark (map blank_site sites) marks ≡ in_turn mark sites marks
marks_from_blank [] marks = refl
marks_from_blank (s ∷ sites) marks = marks_from_blank sites (mark s marks)

pub marks_blank : (size : ℕ) (sites : List Site) → marked size (map blank_site sites) ≡ marked size sites
marks_blank size sites = marks_from_blank sites (zeros size)
