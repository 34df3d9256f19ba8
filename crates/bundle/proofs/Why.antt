-- A step of the entry table is refused by 12 to 14.
-- Assumes nothing.
use Rattle.std.specs.Prelude.{Result, Ok, Err, Option, Some, None}
use mathlib.Core.Path.{◌≡◌}
use mathlib.Core.Bool.{Bool, true, false, cond}
use mathlib.Core.List.{List, [], ◌∷◌}
use Prim.Native.Nat.{ℕ, ◌+◌}
use native.Mathlib.Omega.{arith}
use lib.Dec.{ltb, eqb}
use lib.ListN.{length}
use Rattle.checks.specs.Checks.{◌⇒◌, decide}
use Rattle.checks.proofs.Checks.{because}
use Rattle.checks.proofs.Impossible.{never}
use Rattle.le.specs.Number.{byte_at}
use Rattle.refusal.specs.Number.{Between}
use Rattle.refusal.specs.declared.Refusal.{Refusal}
use Rattle.refusal.specs.declared.Refusal.TheVariants.{EntryTableEnds}
use Rattle.bundle.specs.Bundle.{bundle_at, bundle_checks, step_of}
use Rattle.bundle.specs.declared.Bundle.{Bundle}

module _ (why : Refusal) where
  -- What is asked of a step.
  abbrev In : Result (Option Bundle) Refusal → Type 0
  In s = s ≡ Err why → Between 12 14 why

  either : (test : Bool) (a b : Result (Option Bundle) Refusal) → In a → In b → In (cond test a b)
  either true a b p q = p
  either false a b p q = q

  at_end : In (Ok None)
  at_end e = never cc

  module _ (table : List ℕ) (segments at used : ℕ) where
    of_bundle : In (decide Err (bundle_checks table segments (bundle_at table at used)) (Ok (Some (bundle_at table at used))))
    unfolding bundle_checks
    of_bundle e = because Err (λ w w' z. cc) (Between 12 14) (bundle_checks table segments (bundle_at table at used)) _ (omega arith) why (λ z. never cc) e

    there : In (decide Err ((ltb (length table) (at + 1) ⇒ EntryTableEnds) ∷ []) (cond (eqb (byte_at table at) 0) (Ok None) (decide Err (bundle_checks table segments (bundle_at table at used)) (Ok (Some (bundle_at table at used))))))
    there e = because Err (λ w w' z. cc) (Between 12 14) ((ltb (length table) (at + 1) ⇒ EntryTableEnds) ∷ []) _ (omega arith) why (either (eqb (byte_at table at) 0) _ _ at_end of_bundle) e

    pub refused : step_of table segments at used ≡ Err why → Between 12 14 why
    unfolding step_of
    refused e = either (eqb (length table) 0) _ _ at_end there e
