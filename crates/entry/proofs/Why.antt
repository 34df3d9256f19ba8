-- An entry table is refused by 12 to 14.
-- Assumes nothing.
use Rattle.std.specs.Prelude.{Result, Ok, Err, Option, Some, None}
use mathlib.Core.Path.{◌≡◌, refl}
use mathlib.Core.List.{List}
use Prim.Native.Nat.{ℕ}
use native.Mathlib.Omega.{arith}
use lib.ListN.{length}
use Rattle.checks.proofs.Impossible.{never}
use Rattle.refusal.specs.Number.{Between}
use Rattle.refusal.specs.declared.Refusal.{Refusal}
use Rattle.refusal.specs.declared.Refusal.TheVariants.{EntryTableEnds}
use Rattle.tables.specs.Table.{Place, Stop, Unsound}
use Rattle.tables.proofs.Induction.{unsound_table}
use Rattle.bundle.specs.Bundle.{step_of}
use Rattle.bundle.specs.declared.Bundle.{Bundle}
use Rattle.bundle.proofs.Why as bundle
use Rattle.entry.specs.Table.{as_step, bundle_step, table_of}

module _ (table : List ℕ) (segments : ℕ) where
  of_step : (p : Place) (why : Refusal) → bundle_step table segments p ≡ Stop why → Between 12 14 why
  of_step p why e = go (step_of table segments p.at p.used) refl e
    where
      go : (s : Result (Option Bundle) Refusal) → step_of table segments p.at p.used ≡ s → as_step s ≡ Stop why → Between 12 14 why
      go (Err reason) q z =
          let same : reason ≡ why = cc in
          rw same at (bundle.refused reason table segments p.at p.used q)
      go (Ok None) q z = never cc
      go (Ok (Some b)) q z = never cc

  pub refused : (why : Refusal) → table_of table segments ≡ Unsound why → Between 12 14 why
  unfolding table_of
  refused why e = unsound_table (bundle_step table segments) EntryTableEnds (Between 12 14) (omega arith) of_step (length table) (record { at = 0; used = 0 }) why e
