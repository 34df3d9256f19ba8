-- The pass over the records of which each index has one.
--     run_goes_on   from an index on: the sites of its record, then the rest
--     run_stops     a record that is refused ends the pass
--     run_ends      after the last record
-- Assumes nothing.
use Rattle.std.proofs.Common.{◌≡◌, List, ℕ, suc, ◌+◌, ◌<◌, ◌≤◌, drop, Result, Ok, Err, Option, arith, add-one}
use Rattle.lists.specs.Lists.{each}
use Rattle.lists.proofs.Each.{each_from, each_end}
use Rattle.refusal.specs.declared.Refusal.{Refusal}
use Rattle.site.specs.declared.Fixup.{Fixup}
use Rattle.follow.specs.Internal.{passed, action_pass}
use Rattle.loader.specs.Internal.{ran, run_from}

module _ (stored : List ℕ) (n : ℕ) (f : ℕ → Result (Option Fixup) Refusal) (done : ℕ) (marks bytes : List ℕ) (i : ℕ) where
  pub run_goes_on : {more : ℕ} {after written : List ℕ} → i < n → passed (Ok more) after written ≡ action_pass stored (f i) done marks bytes → run_from stored (drop (i + 1) (each n f)) (suc (i + 1)) more after written ≡ run_from stored (drop i (each n f)) (suc i) done marks bytes
  unfolding run_from
  run_goes_on h e = rw (add-one i, each_from n f i h, ← e)

  pub run_stops : {why : Refusal} {after written : List ℕ} → i < n → passed (Err why) after written ≡ action_pass stored (f i) done marks bytes → ran (Err (record { why = why; number = i + 1 })) after written ≡ run_from stored (drop i (each n f)) (suc i) done marks bytes
  unfolding run_from
  run_stops h e = rw (add-one i, each_from n f i h, ← e)

  pub run_ends : n ≤ i → i ≤ n → ran (Ok done) marks bytes ≡ run_from stored (drop i (each n f)) (suc i) done marks bytes
  unfolding run_from
  run_ends low high = let is : i ≡ n = omega arith in rw (is, each_end n f)
