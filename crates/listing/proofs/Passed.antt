-- The lines of the table from a place on, by what stands there.
--     lines_start     at the table's start they are all
--     lines_end, lines_more   where the table ends there, and where a bundle stands there
-- Assumes nothing.
use Rattle.std.proofs.Common.{◌≡◌, ◌∙◌, refl, ap, sym, true, false, List, [], ◌∷◌, ◌++◌, ℕ, ◌+◌, Result, Ok, Err, Option, Some, None}
use Rattle.std.specs.Result.{result_unwrap_or}
use Rattle.checks.proofs.Impossible.{never}
use Rattle.refusal.specs.declared.Refusal.{Refusal}
use Rattle.bundle.specs.declared.Bundle.{Bundle}
use Rattle.bundle.specs.Bundle.{step_of}
use Rattle.tables.specs.Table.{Sound, Unsound, after}
use Rattle.entry.specs.Table.{EntryTable, table_at, table_of, is_sound}
use Rattle.entry.proofs.Turns.{unrolled, whole}
use Rattle.listing.specs.Internal.{bundle_lines, bundles_lines, table_lines}

-- A step that is taken for the end where it is refused.
pub went_on : (s : Result (Option Bundle) Refusal) (b : Bundle) → Some b ≡ result_unwrap_or s None → s ≡ Ok (Some b)
went_on (Ok step) b e = ap Ok (sym e)
went_on (Err why) b e = never cc

sound_after : (b : Bundle) (t : EntryTable) → is_sound (after (b ∷ []) t) ≡ true → is_sound t ≡ true
sound_after b (Sound bs) e = refl
sound_after b (Unsound why) e = e

lines_after : (table : List ℕ) (b : Bundle) (t : EntryTable) → is_sound (after (b ∷ []) t) ≡ true → table_lines table (after (b ∷ []) t) ≡ bundle_lines table b ++ table_lines table t
unfolding bundles_lines
lines_after table b (Sound bs) e = refl
lines_after table b (Unsound why) e = never cc

module _ (table : List ℕ) (segments : ℕ) where
  pub lines_start : table_at table segments 0 0 ≡ table_of table segments
  lines_start = sym (whole table segments)

  module _ (at used : ℕ) where
    pub lines_end : is_sound (table_at table segments at used) ≡ true → None ≡ result_unwrap_or (step_of table segments at used) None → table_lines table (table_at table segments at used) ≡ []
    unfolding bundles_lines
    lines_end sound e = go (step_of table segments at used) refl e
      where
        go : (s : Result (Option Bundle) Refusal) → step_of table segments at used ≡ s → None ≡ result_unwrap_or s None → table_lines table (table_at table segments at used) ≡ []
        go (Ok None) q e = ap (table_lines table) (unrolled table segments at used _ q)
        go (Ok (Some b)) q e = never cc
        go (Err why) q e =
            let unsound : is_sound (table_at table segments at used) ≡ false = ap is_sound (unrolled table segments at used _ q) in
            never cc

    module _ (b : Bundle) (sound : is_sound (table_at table segments at used) ≡ true) (step : step_of table segments at used ≡ Ok (Some b)) where
      goes : table_at table segments at used ≡ after (b ∷ []) (table_at table segments b.end (b.used + b.count))
      goes = unrolled table segments at used _ step

      pub sound_on : is_sound (table_at table segments b.end (b.used + b.count)) ≡ true
      sound_on = sound_after b (table_at table segments b.end (b.used + b.count)) (sym (ap is_sound goes) ∙ sound)

      pub lines_more : table_lines table (table_at table segments at used) ≡ bundle_lines table b ++ table_lines table (table_at table segments b.end (b.used + b.count))
      lines_more = ap (table_lines table) goes ∙ lines_after table b (table_at table segments b.end (b.used + b.count)) (sym (ap is_sound goes) ∙ sound)
