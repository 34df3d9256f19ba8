-- The laws of a block's resources.
--     number_before, number_behind   a number that isn't the block's finds nothing
--     number_here                    one that is finds the resource of its index
--     kind_other, words_low          other words, or words without the high bit, find nothing
--     words_id                       in a block of the right type the id decides
--     one_more                       what is found from an index on: the resource there, or what is found after it
--     id_here, id_other, id_none     by whether the resource there has the id
-- Assumes nothing.
use Rattle.std.specs.Prelude.{Option, Some, None}
use mathlib.Core.Path.{◌≡◌, refl, sym, ◌∙◌}
use mathlib.Core.Logic.{inr}
use mathlib.Core.Bool.{Bool, true, false, cond, ◌&&◌}
use mathlib.Core.List.{List}
use Prim.Native.Nat.{ℕ, zero, suc, ◌+◌, ◌-◌, ◌≤◌, ◌<◌}
use native.Mathlib.Omega.{arith}
use borrow.Author.Tests.{eq-eqb, ne_eqb}
use lib.Dec.{eqb}
use lib.ListN.{length, get_or}
use Rattle.tables.specs.Query.{first_of, numbered}
use Rattle.lists.specs.Lists.{All}
use Rattle.lists.proofs.All.{all_map}
use Rattle.tables.proofs.Query.{Numbered, same_tests, none_taken, below, counted, numbered_lacked, numbered_has}
use Rattle.resources.specs.declared.Resource.{Resource}
use Rattle.resources.specs.declared.block.Block.{Block}
use Rattle.resources.specs.Resource.{resource_at, resources_from, block_resources, high_bit, has_kind_and_id}
use Rattle.resources.specs.Internal.{has_number, has_id}

module _ (image : List ℕ) (b : Block) where
  pub many : (left index : ℕ) → length (resources_from left image b index) ≡ left
  unfolding resources_from
  many zero index = refl
  many (suc left) index = rw (many left (suc index))

  pub in_order : (left index : ℕ) → Numbered (λ (r : Resource). r.number) (suc (b.used + index)) (resources_from left image b index)
  unfolding resources_from resource_at
  in_order zero index = tt
  in_order (suc left) index =
      let next : suc (b.used + suc index) ≡ suc (suc (b.used + index)) = omega arith in
      (omega arith, rw next at (in_order left (suc index)))

  at_index : (left index i : ℕ) (d : Resource) → i < left → get_or (resources_from left image b index) i d ≡ resource_at image b (index + i)
  unfolding resources_from
  at_index zero index i d h = absurd (omega arith)
  at_index (suc left) index zero d h = let same : index + 0 ≡ index = omega arith in rw same
  at_index (suc left) index (suc i) d h =
      let same : suc index + i ≡ index + suc i = omega arith in
      rw same at (at_index left (suc index) i d (omega arith))

  numbers : Numbered (λ (r : Resource). r.number) (suc b.used) (block_resources image b)
  numbers = let same : suc (b.used + 0) ≡ suc b.used = omega arith in rw same at (in_order b.count 0)

  pub number_before : (number : ℕ) → number ≤ b.used → first_of (has_number number) Some None (block_resources image b) ≡ None
  number_before number h = none_taken Some (has_number number) None (block_resources image b) (below Some (λ (r : Resource). r.number) (suc b.used) number (block_resources image b) numbers (omega arith))

  indexed : (number : ℕ) → b.used < number → first_of (has_number number) Some None (block_resources image b) ≡ numbered (suc (number - suc b.used)) Some None (block_resources image b)
  indexed number h = counted Some (λ (r : Resource). r.number) (suc b.used) number None (block_resources image b) numbers h

  pub number_behind : (number : ℕ) → b.used < number → b.count ≤ number - 1 - b.used → first_of (has_number number) Some None (block_resources image b) ≡ None
  number_behind number h k =
      let all = many b.count 0 in
      let over : length (block_resources image b) < suc (number - suc b.used) = omega (arith, all) in
      indexed number h ∙ numbered_lacked Some (suc (number - suc b.used)) None (block_resources image b) (inr over)

  pub number_here : (number : ℕ) → b.used < number → number - 1 - b.used < b.count → first_of (has_number number) Some None (block_resources image b) ≡ Some (resource_at image b (number - 1 - b.used))
  number_here number h k =
      let all = many b.count 0 in
      let same : number - suc b.used ≡ number - 1 - b.used = omega arith in
      let within : number - 1 - b.used < length (block_resources image b) = omega (arith, all) in
      let d = resource_at image b 0 in
      let it = numbered_has Some (number - 1 - b.used) None (block_resources image b) d within in
      let there = at_index b.count 0 (number - 1 - b.used) d k in
      let index : 0 + (number - 1 - b.used) ≡ number - 1 - b.used = omega arith in
      (rw same at (indexed number h)) ∙ it ∙ rw (there, index)

  kinds : (left index : ℕ) → All (λ (r : Resource). r.kind ≡ b.kind) (resources_from left image b index)
  unfolding resources_from resource_at
  kinds zero index = tt
  kinds (suc left) index = (refl, kinds left (suc index))

  pub words_low : (kind id : ℕ) → (high_bit kind && high_bit id) ≡ false → first_of (has_kind_and_id kind id) Some None (block_resources image b) ≡ None
  words_low kind id h = none_taken Some (has_kind_and_id kind id) None (block_resources image b) (all_map (λ (r : Resource). r.kind ≡ b.kind) (λ (r : Resource). has_kind_and_id kind id r ≡ false) (λ r e. low (high_bit kind) (high_bit id) (eqb r.kind kind && eqb r.id id) h) (block_resources image b) (kinds b.count 0))
    where
      low : (p q t : Bool) → (p && q) ≡ false → (p && (q && t)) ≡ false
      low false q t e = refl
      low true false t e = refl
      low true true t e = cc

  pub kind_other : (kind id : ℕ) → (b.kind ≡ kind → ⊥) → first_of (has_kind_and_id kind id) Some None (block_resources image b) ≡ None
  kind_other kind id h = none_taken Some (has_kind_and_id kind id) None (block_resources image b) (all_map (λ (r : Resource). r.kind ≡ b.kind) (λ (r : Resource). has_kind_and_id kind id r ≡ false) (λ r e. let other : r.kind ≡ kind → ⊥ = λ z. h (sym e ∙ z) in rw (ne_eqb r.kind kind other) (stays (high_bit kind) (high_bit id))) (block_resources image b) (kinds b.count 0))
    where
      stays : (p q : Bool) → (p && (q && false)) ≡ false
      stays false q = refl
      stays true false = refl
      stays true true = refl

  pub words_id : (kind id : ℕ) → high_bit kind ≡ true → high_bit id ≡ true → b.kind ≡ kind → first_of (has_kind_and_id kind id) Some None (block_resources image b) ≡ first_of (has_id id) Some None (block_resources image b)
  words_id kind id p q h = same_tests Some (has_kind_and_id kind id) (has_id id) None (block_resources image b) (all_map (λ (r : Resource). r.kind ≡ b.kind) (λ (r : Resource). has_kind_and_id kind id r ≡ has_id id r) (λ r e. rw (p, q, eq-eqb r.kind kind (e ∙ h))) (block_resources image b) (kinds b.count 0))

  -- What is found among so many resources from an index on.
  abbrev pub id_from : ℕ → ℕ → ℕ → Option Resource
  id_from id left index = first_of (has_id id) Some None (resources_from left image b index)

  pub one_more : (id left index : ℕ) → 0 < left → id_from id left index ≡ cond (has_id id (resource_at image b index)) (Some (resource_at image b index)) (id_from id (left - 1) (suc index))
  unfolding first_of resources_from
  one_more id zero index h = absurd (omega arith)
  one_more id (suc left) index h = let rest : suc left - 1 ≡ left = omega arith in rw rest

  this_one : (id index : ℕ) → index < b.count → id_from id (b.count - index) index ≡ cond (has_id id (resource_at image b index)) (Some (resource_at image b index)) (id_from id (b.count - (index + 1)) (index + 1))
  this_one id index h =
      let rest : b.count - index - 1 ≡ b.count - (index + 1) = omega arith in
      let next : index + 1 ≡ suc index = omega arith in
      one_more id (b.count - index) index (omega arith) ∙ rw (rest, next)

  pub id_here : (id index : ℕ) → index < b.count → (resource_at image b index).id ≡ id → id_from id (b.count - index) index ≡ Some (resource_at image b index)
  id_here id index h e = this_one id index h ∙ rw (eq-eqb _ _ e)

  pub id_other : (id index : ℕ) → index < b.count → ((resource_at image b index).id ≡ id → ⊥) → id_from id (b.count - index) index ≡ id_from id (b.count - (index + 1)) (index + 1)
  id_other id index h n = this_one id index h ∙ rw (ne_eqb _ _ n)

  pub id_none : (id index : ℕ) → b.count ≤ index → id_from id (b.count - index) index ≡ None
  unfolding first_of resources_from
  id_none id index h = let none : b.count - index ≡ 0 = omega arith in rw none

-- What the proofs of the searches by a number, by two words and by an id are made of.
pub ruleset of_number = (number_before, number_behind, number_here)

pub ruleset of_words = (words_low, kind_other, words_id)

pub ruleset of_id = (id_here, id_other, id_none)
