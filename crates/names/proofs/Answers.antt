-- The answers by the walks are those of the queries.
--     next_few    the number after a list
--     by_number   of a name by its number
--     by_bytes    of a name by its bytes
-- Assumes nothing.
use Rattle.std.specs.Prelude.{Result, Ok, Err, Some, None, ok_or}
use Rattle.std.specs.Option.{option_or}
use mathlib.Core.Path.{◌≡◌, ◌∙◌, refl, sym, ap}
use mathlib.Core.Bool.{Bool, false}
use mathlib.Core.List.{List, [], ◌∷◌, ◌++◌}
use Prim.Native.Nat.{ℕ, suc, ◌+◌, ◌*◌, ◌≤◌}
use native.Mathlib.Omega.{arith}
use borrow.Author.Tests.{eq-eqb}
use lib.Dec.{eqb}
use lib.ListN.{length, drop}
use Rattle.checks.proofs.Impossible.{never}
use Rattle.refusal.specs.declared.Refusal.{Refusal}
use Rattle.refusal.specs.declared.Refusal.TheVariants.{NoSuchNumber, NoSuchName, ResidentNames}
use Rattle.tables.specs.Table.{Table, Sound, Unsound, on_table}
use Rattle.tables.specs.Query.{first_of, numbered}
use Rattle.lists.proofs.All.{all_map}
use Rattle.tables.proofs.Query.{Numbered, numbered_append, first_append, first_through, same_tests, below, numbered_first}
use Rattle.header.specs.Header.{header_of}
use Rattle.header.specs.declared.Header.{Header}
use Rattle.checks.specs.Onward.{◌>>=◌}
use Rattle.names.specs.declared.Name.{Name}
use Rattle.names.specs.declared.Progress.{Progress}
use Rattle.names.specs.Text.{same}
use Rattle.names.specs.Names.{resident_of, nonresident_of, asked, text_of, name_by_number, name_by_bytes}
use Rattle.names.specs.Internal.{has_number, has_bytes, onwards, walk_of, found_after, found_of}
use Rattle.names.proofs.Numbers.{numbers}

pub next_few : (limit : ℕ) (t : Table Name Refusal) (p q : Progress) (takes : ℕ → Name → Bool) → walk_of t p takes ≡ Ok q → ((ns : List Name) → t ≡ Sound ns → 4 * length ns ≤ limit) → 4 * q.used ≤ 4 * p.used + limit
next_few limit (Sound ns) p q takes e h =
    let is : q ≡ onwards p takes ns = cc in
    let size = h ns refl in
    rw is (omega (arith, size))
next_few limit (Unsound why) p q takes e h = never cc

-- What is found in one list or else in the other.
in_both : (test other : Name → Bool) (none : Refusal) (r n : List Name) → ok_or (option_or (first_of test Some None r) (first_of other Some None n)) none ≡ first_of test Ok (first_of other Ok (Err none) n) r
in_both test other none r n =
    let rest = first_of other Some None n in
    first_through Some (λ m. ok_or (option_or m rest) none) test None r ∙ ap (λ (a : Result Name Refusal). first_of test Ok a r) (first_through Some (λ m. ok_or m none) other None n)

pub nonresident_numbers : (image : List ℕ) (h : Header) (used : ℕ) (ns : List Name) → nonresident_of image h used ≡ Sound ns → Numbered (λ (n : Name). n.number) (suc used) ns
nonresident_numbers image h used ns e = grind (arith, numbers)

-- The answers from both lists, for a query that says the same of all sound lists.
same_query : (image : List ℕ) (takes : ℕ → Name → Bool) (none : Refusal) (query : List Name → List Name → Result Name Refusal) → ((r n : List Name) → Numbered (λ (n : Name). n.number) 1 r → Numbered (λ (n : Name). n.number) (suc (length r)) n → ok_or (option_or (first_of (takes 1) Some None r) (first_of (takes (length r + 1)) Some None n)) none ≡ query r n) → asked image query ≡ (found_of image takes >>= λ m. ok_or m none)
unfolding found_of found_after
same_query image takes none query same_answer = go (header_of image)
  where
    in_nonresident : (h : Header) (r : List Name) → Numbered (λ (n : Name). n.number) 1 r → (t : Table Name Refusal) → nonresident_of image h (length r) ≡ t → on_table t Err (λ n. query r n) ≡ (walk_of t (record { used = length r; found = first_of (takes 1) Some None r }) takes >>= λ p. ok_or p.found none)
    in_nonresident h r k (Sound n) e = sym (same_answer r n k (nonresident_numbers image h (length r) n e))
    in_nonresident h r k (Unsound why) e = refl

    bound : (r : Result Progress Refusal) → ((r >>= λ p. Ok p.found) >>= λ m. ok_or m none) ≡ (r >>= λ p. ok_or p.found none)
    bound (Ok p) = refl
    bound (Err why) = refl

    in_resident : (h : Header) (t : Table Name Refusal) → resident_of image h ≡ t → on_table t Err (λ r. on_table (nonresident_of image h (length r)) Err (λ n. query r n)) ≡ ((walk_of t (record { used = 0; found = None }) takes >>= λ p. found_after image h p takes) >>= λ m. ok_or m none)
    in_resident h (Sound r) e =
        let all : 0 + length r ≡ length r = omega arith in
        in_nonresident h r (numbers image (length image) ResidentNames h.resident 0 r e) (nonresident_of image h (length r)) refl
        ∙ ap (λ used. walk_of (nonresident_of image h used) (record { used = used; found = first_of (takes 1) Some None r }) takes >>= λ p. ok_or p.found none) (sym all)
        ∙ sym (bound _)
    in_resident h (Unsound why) e = refl

    go : (a : Result Header Refusal) → (a >>= λ h. on_table (resident_of image h) Err (λ r. on_table (nonresident_of image h (length r)) Err (λ n. query r n))) ≡ ((a >>= λ h. walk_of (resident_of image h) (record { used = 0; found = None }) takes >>= λ p. found_after image h p takes) >>= λ m. ok_or m none)
    go (Ok h) = in_resident h (resident_of image h) refl
    go (Err why) = refl

pub by_number : (image : List ℕ) (number : ℕ) → name_by_number image number ≡ (found_of image (has_number number) >>= λ m. ok_or m NoSuchNumber)
unfolding name_by_number
by_number image number = same_query image (has_number number) NoSuchNumber (λ r n. numbered number Ok (Err NoSuchNumber) (r ++ n)) go
  where
    go : (r n : List Name) → Numbered (λ (n : Name). n.number) 1 r → Numbered (λ (n : Name). n.number) (suc (length r)) n → ok_or (option_or (first_of (λ (n : Name). eqb n.number number) Some None r) (first_of (λ (n : Name). eqb n.number number) Some None n)) NoSuchNumber ≡ numbered number Ok (Err NoSuchNumber) (r ++ n)
    go r n k l =
        let behind : suc (length r) ≡ 1 + length r = omega arith in
        in_both (λ (n : Name). eqb n.number number) (λ (n : Name). eqb n.number number) NoSuchNumber r n ∙ sym (first_append Ok (λ (n : Name). eqb n.number number) (Err NoSuchNumber) r n) ∙ numbered_first Ok (λ (n : Name). n.number) number (Err NoSuchNumber) (r ++ n) (numbered_append (λ (n : Name). n.number) 1 r n k (rw behind at l))

-- The first string of a list isn't found by its bytes.
second_on : (image : List ℕ) (used : ℕ) (name : List ℕ) (none : Result Name Refusal) (ns : List Name) → Numbered (λ (n : Name). n.number) (suc used) ns → first_of (has_bytes image name (used + 1)) Ok none ns ≡ first_of (λ n. same (text_of image n) name) Ok none (drop 1 ns)
unfolding first_of
second_on image used name none [] k = refl
second_on image used name none (n ∷ ns) k =
    let others = below (λ (n : Name). n) (λ (n : Name). n.number) (suc (suc used)) (used + 1) ns k.1 (omega arith) in
    let mine : n.number ≡ used + 1 = omega (arith, k.0) in
    rw (eq-eqb n.number (used + 1) mine)
    (same_tests Ok (has_bytes image name (used + 1)) (λ n. same (text_of image n) name) none ns (all_map (λ (n : Name). eqb n.number (used + 1) ≡ false) (λ (n : Name). has_bytes image name (used + 1) n ≡ same (text_of image n) name) (λ n e. rw e) ns others))

pub by_bytes : (image : List ℕ) (name : List ℕ) → name_by_bytes image name ≡ (found_of image (has_bytes image name) >>= λ m. ok_or m NoSuchName)
unfolding name_by_bytes
by_bytes image name = same_query image (has_bytes image name) NoSuchName (λ r n. first_of (λ n. same (text_of image n) name) Ok (Err NoSuchName) (drop 1 r ++ drop 1 n)) go
  where
    go : (r n : List Name) → Numbered (λ (n : Name). n.number) 1 r → Numbered (λ (n : Name). n.number) (suc (length r)) n → ok_or (option_or (first_of (has_bytes image name 1) Some None r) (first_of (has_bytes image name (length r + 1)) Some None n)) NoSuchName ≡ first_of (λ n. same (text_of image n) name) Ok (Err NoSuchName) (drop 1 r ++ drop 1 n)
    go r n k l = in_both (has_bytes image name 1) (has_bytes image name (length r + 1)) NoSuchName r n ∙ ap (λ (a : Result Name Refusal). first_of (has_bytes image name 1) Ok a r) (second_on image (length r) name (Err NoSuchName) n l) ∙ second_on image 0 name (first_of (λ n. same (text_of image n) name) Ok (Err NoSuchName) (drop 1 n)) r k ∙ sym (first_append Ok (λ n. same (text_of image n) name) (Err NoSuchName) (drop 1 r) (drop 1 n))
