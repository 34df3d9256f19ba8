-- The laws of the blocks from a place on.
--     past, cut    they leave the image
--     ended        type 0 ends them
--     one_block    a block, and the blocks behind it
-- Assumes nothing.
use mathlib.Core.Path.{◌≡◌, ◌∙◌}
use mathlib.Core.List.{List, []}
use Prim.Native.Nat.{ℕ, ◌+◌, ◌*◌, ◌≤◌, ◌<◌}
use native.Mathlib.Omega.{arith}
use borrow.Author.Tests.{lt-ltb, le-ltb, eq-eqb, ne_eqb, ltb-false}
use lib.ListN.{length}
use Rattle.le.specs.Number.{word_at}
use Rattle.refusal.specs.declared.Refusal.{Refusal}
use Rattle.refusal.specs.declared.Refusal.TheVariants.{ResourceTable}
use Rattle.tables.specs.Table.{Place, Step, Next, End, Stop, Table, Sound, Unsound, after, on_step, table_of}
use Rattle.tables.proofs.Turns.{unrolled}
use Rattle.resources.specs.declared.Resource.{Resource}
use Rattle.resources.specs.Resource.{step_of, block_at, behind, block_resources}

module _ (image : List ℕ) (shift : ℕ) where
  -- A step that goes on has passed the checks.
  pub went : (p : Place) (xs : List Resource) (t : Place) → step_of image shift p ≡ Next xs t → (xs ≡ block_resources image (block_at image shift p)) × (t ≡ behind (block_at image shift p)) × (t.at ≤ length image)
  unfolding step_of
  went p xs t e = grind (arith, ltb-false)

  on : (p : Place) (xs : List Resource) (t : Place) → step_of image shift p ≡ Next xs t → (p.at < t.at) × (t.at ≤ length image)
  on p xs t e =
      let w = went p xs t e in
      let ahead : p.at < p.at + 8 + 12 * word_at image (p.at + 2) = omega arith in
      (rw w.1 ahead, w.2)

  abbrev pub table_at : ℕ → ℕ → Table Resource Refusal
  table_at at used = table_of (step_of image shift) ResourceTable (length image) (record { at = at; used = used })

  from_step : (at used : ℕ) (s : Step Resource Refusal) → step_of image shift (record { at = at; used = used }) ≡ s → table_at at used ≡ on_step s Unsound (Sound []) (λ xs t. after xs (table_of (step_of image shift) ResourceTable (length image) t))
  from_step at used s e = unrolled (step_of image shift) ResourceTable (length image) on (record { at = at; used = used }) ∙ rw e

  pub past : (at used : ℕ) → length image < at + 2 → table_at at used ≡ Unsound ResourceTable
  unfolding step_of
  past at used h = from_step at used (Stop ResourceTable) (rw (lt-ltb _ _ h))

  pub ended : (at used : ℕ) → at + 2 ≤ length image → word_at image at ≡ 0 → table_at at used ≡ Sound []
  unfolding step_of
  ended at used h e = from_step at used End (rw (le-ltb _ _ h, eq-eqb _ _ e))

  pub cut : (at used : ℕ) → at + 2 ≤ length image → (word_at image at ≡ 0 → ⊥) → length image < at + 8 + 12 * word_at image (at + 2) → table_at at used ≡ Unsound ResourceTable
  unfolding step_of
  cut at used h e k = from_step at used (Stop ResourceTable) (rw (le-ltb _ _ h, ne_eqb _ _ e, lt-ltb _ _ k))

  pub one_block : (at used : ℕ) → (word_at image at ≡ 0 → ⊥) → at + 8 + 12 * word_at image (at + 2) ≤ length image → table_at at used ≡ after (block_resources image (block_at image shift (record { at = at; used = used }))) (table_at (at + 8 + 12 * word_at image (at + 2)) (used + word_at image (at + 2)))
  unfolding step_of
  one_block at used e k =
      let p : Place = record { at = at; used = used } in
      let h : at + 2 ≤ length image = omega arith in
      from_step at used (Next (block_resources image (block_at image shift p)) (behind (block_at image shift p))) (rw (le-ltb _ _ h, ne_eqb _ _ e, le-ltb _ _ k))
