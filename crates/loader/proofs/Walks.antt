-- The pass over all records answers what going over them means, and leaves the marks of all sites and all of them written.
-- Assumes nothing.
use Rattle.std.specs.Prelude.{Result, Ok, Err, Option, Some, None}
use mathlib.Core.Path.{◌≡◌, refl}
use mathlib.Core.List.{List, [], ◌∷◌}
use Prim.Native.Nat.{ℕ, suc, ◌-◌}
use lib.ListN.{length}
use Rattle.site.specs.Site.{Site}
use Rattle.site.specs.Walk as walk
use Rattle.site.specs.Walk.{followed, walk_from, walk_of}
use Rattle.checks.specs.Onward.{on_result}
use Rattle.site.specs.declared.Fixup.{Fixup}
use Rattle.refusal.specs.declared.Refusal.{Refusal}
use Rattle.site.proofs.Meets.{Good}
use Rattle.site.proofs.Accept.{follow_accepted}
use Rattle.follow.specs.Internal.{Pass, pass_of}
use Rattle.follow.proofs.Walks.{marks_of, written_of, Ties, all_tie}
use Rattle.loader.specs.Internal.{Run, ran, on_answer, run_from}

module _ (stored : List ℕ) where
  -- What a pass gave, where going over the records gives that.
  abbrev pub Runs : walk.Walk → Run → Type 0
  Runs (walk.Walked sites) r = r ≡ ran (Ok (length sites)) (marks_of stored sites) (written_of stored sites)
  Runs (walk.Stopped why number) r = r.answer ≡ Err (record { why = why; number = number })

  -- The pass from a record on, behind the sites of the earlier ones.
  abbrev runs_behind : List (Result (Option Fixup) Refusal) → ℕ → List Site → Run
  runs_behind actions number earlier = run_from stored actions number (length earlier) (marks_of stored earlier) (written_of stored earlier)

  abbrev Later : List (Result (Option Fixup) Refusal) → ℕ → Type 0
  Later rest number = (sites : List Site) → Good stored sites → Runs (walk_from stored rest number sites) (runs_behind rest number sites)

  applied : (f : Fixup) (rest : List (Result (Option Fixup) Refusal)) (number : ℕ) (earlier : List Site) → Good stored earlier → Later rest (suc number) → (w : Result (List Site) Refusal) → followed stored f earlier ≡ w → (p : Pass) → Ties stored w p → Runs (on_result w (λ why. walk.Stopped why number) (λ sites. walk_from stored rest (suc number) sites)) (on_answer p.answer number p.marks p.bytes (λ more. run_from stored rest (suc number) more p.marks p.bytes))
  applied f rest number earlier g later (Ok sites) e p t = rw t (later sites (follow_accepted stored f (65536 - length earlier) f.site earlier sites g e).good)
  applied f rest number earlier g later (Err why) e p t = rw t

  runs_from : (actions : List (Result (Option Fixup) Refusal)) (number : ℕ) → Later actions number
  unfolding walk_from run_from
  runs_from [] number earlier g = refl
  runs_from (Ok None ∷ rest) number earlier g = runs_from rest (suc number) earlier g
  runs_from (Err why ∷ rest) number earlier g = refl
  runs_from (Ok (Some f) ∷ rest) number earlier g = applied f rest number earlier g (runs_from rest (suc number)) (followed stored f earlier) refl (pass_of stored f (length earlier) (marks_of stored earlier) (written_of stored earlier)) (all_tie stored f earlier g)

  pub runs : (actions : List (Result (Option Fixup) Refusal)) → Runs (walk_of stored actions) (runs_behind actions 1 [])
  runs actions = runs_from actions 1 [] (tt, tt)
