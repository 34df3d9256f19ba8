-- The induction over a sound table: what holds of the empty list, and of a bundle that passed its checks in front of a list
-- of which it holds, holds of the table's bundles from any place on.
-- Assumes nothing.
use mathlib.Core.Path.{◌≡◌, refl}
use mathlib.Core.List.{List, [], ◌∷◌, ◌++◌}
use Prim.Native.Nat.{ℕ, ◌+◌}
use lib.ListN.{length}
use Rattle.refusal.specs.declared.Refusal.TheVariants.{EntryTableEnds}
use Rattle.tables.specs.Table.{Place, Next, Sound}
use Rattle.tables.proofs.Induction as tables
use Rattle.bundle.specs.declared.Bundle.{Bundle}
use Rattle.bundle.specs.Bundle.{step_of}
use Rattle.bundle.specs.Internal.{Went}
use Rattle.entry.specs.Table.{bundle_step, table_of}
use Rattle.entry.proofs.Turns.{goes_on}

module _ (table : List ℕ) (segments : ℕ) (P : ℕ → ℕ → List Bundle → Type 0) (none : (at used : ℕ) → P at used []) (more : (at used : ℕ) (b : Bundle) (bs : List Bundle) → Went table at used b → P b.end (b.used + b.count) bs → P at used (b ∷ bs)) where
  step : (p : Place) (bs : List Bundle) (t : Place) (rest : List Bundle) → bundle_step table segments p ≡ Next bs t → P t.at t.used rest → P p.at p.used (bs ++ rest)
  step p bs t rest e h =
      let g = goes_on table segments p bs t (step_of table segments p.at p.used) refl e in
      rw g.1.1 (more p.at p.used g.0 rest g.1.0 (rw g.1.2 at h))

  pub sound_table : (bs : List Bundle) → table_of table segments ≡ Sound bs → P 0 0 bs
  unfolding table_of
  sound_table bs e = tables.sound_table (bundle_step table segments) EntryTableEnds (λ (p : Place) (bs : List Bundle). P p.at p.used bs) (λ p q. none p.at p.used) step (length table) (record { at = 0; used = 0 }) bs e
