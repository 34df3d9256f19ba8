-- The law of the table from a place on: it is what stands at the place, and then the table behind it.
-- Assumes nothing.
use Rattle.std.specs.Prelude.{Result, Ok, Err, Option, Some, None}
use mathlib.Core.Path.{◌≡◌, ◌∙◌, refl}
use mathlib.Core.List.{List, [], ◌∷◌}
use Prim.Native.Nat.{ℕ, ◌≤◌, ◌<◌}
use native.Mathlib.Omega.{arith}
use lib.ListN.{length}
use Rattle.checks.proofs.Impossible.{never}
use Rattle.refusal.specs.declared.Refusal.TheVariants.{EntryTableEnds}
use Rattle.tables.specs.Table as tables
use Rattle.tables.specs.Table.{Place, Next, Sound, Unsound, after, on_step}
use Rattle.tables.proofs.Turns as tables-laws
use Rattle.bundle.specs.declared.Bundle.{Bundle}
use Rattle.refusal.specs.declared.Refusal.{Refusal}
use Rattle.bundle.specs.Bundle.{step_of}
use Rattle.bundle.specs.Internal.{Went}
use Rattle.bundle.proofs.Went.{went}
use Rattle.entry.specs.Table.{behind, as_step, bundle_step, table_at, table_of}

module _ (table : List ℕ) (segments : ℕ) where
  -- A step that goes on does so over a bundle that passed its checks.
  pub goes_on : (p : Place) (bs : List Bundle) (t : Place) (s : Result (Option Bundle) Refusal) → step_of table segments p.at p.used ≡ s → as_step s ≡ Next bs t → (b : Bundle) × (Went table p.at p.used b × (bs ≡ b ∷ []) × (t ≡ behind b))
  goes_on p bs t (Err why) e q = never cc
  goes_on p bs t (Ok None) e q = never cc
  goes_on p bs t (Ok (Some b)) e q = (b, (went table segments p.at p.used b e, cc, cc))

  on : (p : Place) (bs : List Bundle) (t : Place) → bundle_step table segments p ≡ Next bs t → (p.at < t.at) × (t.at ≤ length table)
  on p bs t e =
      let g = goes_on p bs t (step_of table segments p.at p.used) refl e in
      let w = g.1.0 in
      rw g.1.2 (omega (arith, w.on, w.room), w.end)

  pub unrolled : (at used : ℕ) (s : Result (Option Bundle) Refusal) → step_of table segments at used ≡ s → table_at table segments at used ≡ on_step (as_step s) Unsound (Sound []) (λ bs t. after bs (tables.table_of (bundle_step table segments) EntryTableEnds (length table) t))
  unrolled at used s e = tables-laws.unrolled (bundle_step table segments) EntryTableEnds (length table) on (record { at = at; used = used }) ∙ rw e

  pub whole : table_of table segments ≡ table_at table segments 0 0
  unfolding table_of
  whole = refl
