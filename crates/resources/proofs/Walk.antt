-- The laws of a walk that has found something, or nothing, so far: what it finds in all, by what stands at its place.
--     start        where nothing is found yet, that is what the walk of the table finds
--     past, cut    the blocks leave the image
--     ended        type 0 ends them
--     one_block    a block, and the blocks after it
-- Assumes nothing.
use Rattle.std.specs.Prelude.{Result, Ok, Err, Option, Some, None}
use Rattle.std.specs.Option.{option_or}
use mathlib.Core.Path.{◌≡◌, ◌∙◌, refl, sym, ap}
use mathlib.Core.Bool.{Bool}
use mathlib.Core.List.{List, [], ◌++◌}
use Prim.Native.Nat.{ℕ, ◌+◌, ◌*◌, ◌≤◌, ◌<◌}
use lib.ListN.{length}
use Rattle.le.specs.Number.{word_at}
use Rattle.refusal.specs.declared.Refusal.{Refusal}
use Rattle.refusal.specs.declared.Refusal.TheVariants.{ResourceTable}
use Rattle.tables.specs.Table.{Table, Sound, Unsound, after, on_table}
use Rattle.tables.specs.Query.{first_of}
use Rattle.tables.proofs.Query.{first_append, first_through}
use Rattle.resources.specs.declared.Resource.{Resource}
use Rattle.resources.specs.Resource.{block_at, block_resources, blocks_from}
use Rattle.resources.specs.Internal.{walk_of}
use Rattle.resources.proofs.Blocks as blocks

-- What is found in all, where `m` was found before the table `t`.
abbrev pub in_all : (Resource → Bool) → Option Resource → Table Resource Refusal → Result (Option Resource) Refusal
in_all takes m t = on_table t Err λ rs. Ok (option_or m (first_of takes Some None rs))

module _ (takes : Resource → Bool) where
  later : (m : Option Resource) (xs ys : List Resource) → option_or m (first_of takes Some None (xs ++ ys)) ≡ option_or (option_or m (first_of takes Some None xs)) (first_of takes Some None ys)
  later (Some r) xs ys = refl
  later None xs ys =
      let rest = first_of takes Some None ys in
      first_append Some takes None xs ys ∙ sym (first_through Some (λ m. option_or m rest) takes None xs)

  in_more : (m : Option Resource) (xs : List Resource) (t : Table Resource Refusal) → in_all takes m (after xs t) ≡ in_all takes (option_or m (first_of takes Some None xs)) t
  in_more m xs (Sound ys) = ap (λ (n : Option Resource). Ok n) (later m xs ys)
  in_more m xs (Unsound why) = refl

  -- Nothing comes after what was found.
  in_end : (m : Option Resource) → in_all takes m (Sound []) ≡ Ok m
  unfolding first_of
  in_end (Some r) = refl
  in_end None = refl

  module _ (image : List ℕ) (shift at used : ℕ) (m : Option Resource) where
    pub past : length image < at + 2 → in_all takes m (blocks.table_at image shift at used) ≡ Err ResourceTable
    past h = ap (in_all takes m) (blocks.past image shift at used h)

    pub ended : at + 2 ≤ length image → word_at image at ≡ 0 → in_all takes m (blocks.table_at image shift at used) ≡ Ok m
    ended h e = ap (in_all takes m) (blocks.ended image shift at used h e) ∙ in_end m

    pub cut : at + 2 ≤ length image → (word_at image at ≡ 0 → ⊥) → length image < at + 8 + 12 * word_at image (at + 2) → in_all takes m (blocks.table_at image shift at used) ≡ Err ResourceTable
    cut h e k = ap (in_all takes m) (blocks.cut image shift at used h e k)

    pub one_block : (kind count : ℕ) → kind ≡ word_at image at → count ≡ word_at image (at + 2) → (kind ≡ 0 → ⊥) → at + 8 + 12 * count ≤ length image → in_all takes m (blocks.table_at image shift at used) ≡ in_all takes (option_or m (first_of takes Some None (block_resources image (record { kind = kind; shift = shift; used = used; at = at + 8; count = count })))) (blocks.table_at image shift (at + 8 + 12 * count) (used + count))
    one_block kind count p q e k =
        let some : word_at image at ≡ 0 → ⊥ = λ z. e (p ∙ z) in
        let fits : at + 8 + 12 * word_at image (at + 2) ≤ length image = rw q at k in
        rw (p, q) (ap (in_all takes m) (blocks.one_block image shift at used some fits) ∙ in_more m (block_resources image (block_at image shift (record { at = at; used = used }))) (blocks.table_at image shift (at + 8 + 12 * word_at image (at + 2)) (used + word_at image (at + 2))))

  pub start : (image : List ℕ) (shift at : ℕ) → walk_of (blocks_from image shift at) takes ≡ in_all takes None (blocks.table_at image shift at 0)
  start image shift at = go (blocks_from image shift at)
    where
      go : (t : Table Resource Refusal) → walk_of t takes ≡ in_all takes None t
      go (Sound rs) = refl
      go (Unsound why) = refl

-- What the walk's proof is made of.
pub ruleset steps = (start, past, ended, cut, one_block)
