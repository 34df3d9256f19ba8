-- The answers by the walk are those of the queries.
--     table_none, table_past, table_shift, table_blocks   what the table is
--     sound_answer, unsound_answer                        what a walk that was done says
--     by_number   of a resource by its number
--     by_words    of a resource by its words
-- Assumes nothing.
use Rattle.std.specs.Prelude.{Result, Ok, Err, Option, Some, None, ok_or}
use mathlib.Core.Path.{◌≡◌, refl, sym}
use mathlib.Core.Bool.{Bool}
use mathlib.Core.List.{List, []}
use Prim.Native.Nat.{ℕ, suc, ◌+◌, ◌≤◌, ◌<◌}
use native.Mathlib.Omega.{arith}
use borrow.Author.Tests.{lt-ltb, le-ltb, eq-eqb, ne_eqb}
use lib.ListN.{length}
use Rattle.le.specs.Number.{word_at}
use Rattle.checks.proofs.Impossible.{never}
use Rattle.refusal.specs.declared.Refusal.{Refusal}
use Rattle.refusal.specs.declared.Refusal.TheVariants.{NoSuchNumber, ResourceTable, ResourceShift, NoSuchResource}
use Rattle.tables.specs.Table.{Place, Next, Table, Sound, Unsound, on_table}
use Rattle.tables.specs.Query.{first_of, numbered}
use Rattle.tables.proofs.Query.{Numbered, first_through, numbered_first}
use Rattle.tables.proofs.Induction.{table_numbers}
use Rattle.header.specs.declared.Header.{Header}
use Rattle.checks.specs.Onward.{◌>>=◌}
use Rattle.resources.specs.declared.Resource.{Resource}
use Rattle.resources.specs.Resource.{step_of, block_at, blocks_from, resources_of, data_checked, asked, has_kind_and_id, resource_by_number, resource_by_words}
use Rattle.resources.specs.Internal.{has_number, walk_of, found_of}
use Rattle.resources.proofs.InBlock.{many, in_order}
use Rattle.resources.proofs.Blocks.{went}

module _ (image : List ℕ) (h : Header) where
  pub table_none : h.resources ≡ h.resident → resources_of image h ≡ Sound []
  unfolding resources_of
  table_none e = rw (eq-eqb _ _ e)

  pub table_past : (h.resources ≡ h.resident → ⊥) → length image < h.resources + 2 → resources_of image h ≡ Unsound ResourceTable
  unfolding resources_of
  table_past n k = rw (ne_eqb _ _ n, lt-ltb _ _ k)

  pub table_shift : (h.resources ≡ h.resident → ⊥) → h.resources + 2 ≤ length image → 15 < word_at image h.resources → resources_of image h ≡ Unsound ResourceShift
  unfolding resources_of
  table_shift n k s = rw (ne_eqb _ _ n, le-ltb _ _ k, lt-ltb _ _ s)

  pub table_blocks : (h.resources ≡ h.resident → ⊥) → h.resources + 2 ≤ length image → word_at image h.resources ≤ 15 → resources_of image h ≡ blocks_from image (word_at image h.resources) (h.resources + 2)
  unfolding resources_of
  table_blocks n k s = rw (ne_eqb _ _ n, le-ltb _ _ k, le-ltb _ _ s)

-- The answer for what was found.
abbrev pub concluded : ℕ → Option Resource → Refusal → Result Resource Refusal
concluded len m none = ok_or m none >>= data_checked len

-- The answer from a table.
abbrev pub answer_from : ℕ → Table Resource Refusal → (Resource → Bool) → Refusal → Result Resource Refusal
answer_from len t takes none = on_table t Err λ rs. concluded len (first_of takes Some None rs) none

pub sound_answer : (len : ℕ) (t : Table Resource Refusal) (takes : Resource → Bool) (none : Refusal) (m : Option Resource) → walk_of t takes ≡ Ok m → answer_from len t takes none ≡ concluded len m none
sound_answer len (Sound rs) takes missing m e =
    let is : m ≡ first_of takes Some None rs = cc in
    rw is
sound_answer len (Unsound why) takes missing m e = never cc

pub unsound_answer : (len : ℕ) (t : Table Resource Refusal) (takes : Resource → Bool) (none : Refusal) (why : Refusal) → walk_of t takes ≡ Err why → answer_from len t takes none ≡ Err why
unsound_answer len (Sound rs) takes missing why e = never cc
unsound_answer len (Unsound other) takes missing why e = let is : why ≡ other = cc in rw is

-- The resources of a sound table have their numbers.
numbers_from : (image : List ℕ) (shift at : ℕ) (rs : List Resource) → blocks_from image shift at ≡ Sound rs → Numbered (λ (r : Resource). r.number) 1 rs
numbers_from image shift at rs e = table_numbers (step_of image shift) ResourceTable (λ (r : Resource). r.number) in_block (length image) (record { at = at; used = 0 }) rs e
  where
    in_block : (p : Place) (xs : List Resource) (t : Place) → step_of image shift p ≡ Next xs t → Numbered (λ (r : Resource). r.number) (suc p.used) xs × (t.used ≡ p.used + length xs)
    in_block p xs t q =
        let w = went image shift p xs t q in
        let b = block_at image shift p in
        let first : suc (p.used + 0) ≡ suc p.used = omega arith in
        let mine : Numbered (λ (r : Resource). r.number) (suc p.used) xs = rw w.0 (rw first at (in_order image b b.count 0)) in
        let size : length xs ≡ word_at image (p.at + 2) = rw w.0 (many image b b.count 0) in
        (mine, rw w.1 (omega (arith, size)))

numbers : (image : List ℕ) (h : Header) (rs : List Resource) → resources_of image h ≡ Sound rs → Numbered (λ (r : Resource). r.number) 1 rs
unfolding resources_of
numbers image h rs e = grind (arith, numbers_from)

-- What was found decides as each element would.
through : (len : ℕ) (takes : Resource → Bool) (none : Refusal) (rs : List Resource) → first_of takes (data_checked len) (Err none) rs ≡ concluded len (first_of takes Some None rs) none
through len takes none rs = sym (first_through Some (λ m. concluded len m none) takes None rs)

-- The answers from the table, for a query that says the same of all sound tables.
same_query : (image : List ℕ) (takes : Resource → Bool) (none : Refusal) (query : List Resource → Result Resource Refusal) → ((rs : List Resource) → Numbered (λ (r : Resource). r.number) 1 rs → query rs ≡ first_of takes (data_checked (length image)) (Err none) rs) → asked image query ≡ (found_of image takes >>= λ m. concluded (length image) m none)
unfolding found_of
same_query image takes none query same_answer = grind (arith, numbers, through, same_answer)

pub by_number : (image : List ℕ) (number : ℕ) → resource_by_number image number ≡ (found_of image (has_number number) >>= λ m. ok_or m NoSuchNumber >>= data_checked (length image))
unfolding resource_by_number
by_number image number = same_query image (has_number number) NoSuchNumber (numbered number (data_checked (length image)) (Err NoSuchNumber)) (λ rs n. sym (numbered_first (data_checked (length image)) (λ (r : Resource). r.number) number (Err NoSuchNumber) rs n))

pub by_words : (image : List ℕ) (kind id : ℕ) → resource_by_words image kind id ≡ (found_of image (has_kind_and_id kind id) >>= λ m. ok_or m NoSuchResource >>= data_checked (length image))
unfolding resource_by_words
by_words image kind id = same_query image (has_kind_and_id kind id) NoSuchResource (first_of (has_kind_and_id kind id) (data_checked (length image)) (Err NoSuchResource)) (λ rs n. refl)
