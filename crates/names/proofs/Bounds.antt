-- The laws of an accepted name.
--     number_accepted   found by its number, it has that number and lies where `InImage` says
--     bytes_accepted    found by its bytes, it has exactly these, and lies where `InImage` says
--     bytes_length      so an empty name isn't found
--     bytes_short       nor one of over 255 bytes
-- Assumes nothing.
use Rattle.std.specs.Prelude.{Result, Ok, Err}
use mathlib.Core.Path.{◌≡◌, refl, sym, ◌∙◌, ap}
use mathlib.Core.Bool.{Bool, true, false, cond}
use mathlib.Core.List.{List, [], ◌∷◌, ◌++◌}
use Prim.Native.Nat.{ℕ, suc, ◌+◌, ◌-◌, ◌≤◌, ◌<◌}
use native.Mathlib.Omega.{arith}
use borrow.Author.Tests.{eqb-true, eqb-false}
use lib.Dec.{eqb}
use lib.ListN.{length, drop, length-drop}
use lib.Seq.{length-take-le}
use Rattle.le.specs.Number.{Bytes}
use Rattle.checks.proofs.Impossible.{never}
use Rattle.refusal.specs.declared.Refusal.{Refusal}
use Rattle.refusal.specs.declared.Refusal.TheVariants.{NoSuchNumber, NoSuchName, ResidentNames, NonresidentNames}
use Rattle.tables.specs.Table.{Sound}
use Rattle.tables.specs.Query.{first_of, numbered}
use Rattle.lists.specs.Lists.{All}
use Rattle.lists.proofs.All.{all_map, all_append}
use Rattle.tables.proofs.Query.{Numbered, first_holds, numbered_first, numbered_append}
use Rattle.header.specs.declared.Header.{Header}
use Rattle.header.specs.Inside.{Inside}
use Rattle.header.proofs.Bounds as header-bounds
use Rattle.names.specs.declared.Name.{Name}
use Rattle.names.specs.Text.{same}
use Rattle.names.specs.Names.{list_from, resident_of, nonresident_end, nonresident_of, asked, text_of, name_by_number, name_by_bytes}
use Rattle.names.specs.InImage.{InImage}
use Rattle.names.proofs.SameText.{same_is}
use Rattle.names.proofs.Numbers.{Bounded, numbers, few, bounded}
use Rattle.names.proofs.Answers as answers

-- What a query over both lists may rely on.
record Lists (image : List ℕ) (resident nonresident : List Name) : Type 0 where
  pub resident_inside : All (InImage image) resident
  pub nonresident_inside : All (InImage image) nonresident
  pub resident_numbers : Numbered (λ (n : Name). n.number) 1 resident
  pub nonresident_numbers : Numbered (λ (n : Name). n.number) (suc (length resident)) nonresident

module _ (image : List ℕ) (h : Header) (inside : Inside image h) (r : List Name) (re : resident_of image h ≡ Sound r) where
  in_resident : All (InImage image) r
  in_resident = all_map (Bounded image (length image) (record { at = h.resident; used = 0 })) (InImage image) (λ n b. record { some = b.some; length_byte = b.length_byte; inside = b.fits; size = inside.size; number = omega (arith, b.number, b.fits, inside.size) }) r (bounded image (length image) ResidentNames h.resident 0 r re)

  in_nonresident : (n : List Name) → nonresident_of image h (length r) ≡ Sound n → All (InImage image) n
  in_nonresident n e = go (eqb h.nonresident.count 0) refl e
    where
      go : (none : Bool) → eqb h.nonresident.count 0 ≡ none → cond none (Sound []) (list_from image (nonresident_end h) NonresidentNames h.nonresident.at (length r)) ≡ Sound n → All (InImage image) n
      go true q z = let is : n ≡ [] = cc in rw is tt
      go false q z =
          let limit = inside.nonresident (grind (arith, eqb-false)) in
          let before = few image (length image) ResidentNames h.resident 0 r re in
          all_map (Bounded image (nonresident_end h) (record { at = h.nonresident.at; used = length r })) (InImage image) (λ x b. record { some = b.some; length_byte = b.length_byte; inside = omega (arith, b.fits, limit); size = inside.size; number = omega (arith, b.number, b.fits, inside.size, limit, before) }) n (bounded image (nonresident_end h) NonresidentNames h.nonresident.at (length r) n z)

  both : (n : List Name) → nonresident_of image h (length r) ≡ Sound n → Lists image r n
  both n e = record { resident_inside = in_resident; nonresident_inside = in_nonresident n e; resident_numbers = numbers image (length image) ResidentNames h.resident 0 r re; nonresident_numbers = answers.nonresident_numbers image h (length r) n e }

-- What holds of every answer that a query gives to sound lists holds of what was asked.
from_query : (image : List ℕ) (query : List Name → List Name → Result Name Refusal) (x : Name) (P : Type 0) → asked image query ≡ Ok x → ((r n : List Name) → Lists image r n → query r n ≡ Ok x → P) → P
from_query image query x P e holds = grind (arith, both, header-bounds.accepted)

pub number_accepted : (image : List ℕ) (number : ℕ) (x : Name) → name_by_number image number ≡ Ok x → InImage image x × (x.number ≡ number)
unfolding name_by_number
number_accepted image number x e = from_query image (λ r n. numbered number Ok (Err NoSuchNumber) (r ++ n)) x (InImage image x × (x.number ≡ number)) e in_list
  where
    in_list : (r n : List Name) → Lists image r n → numbered number Ok (Err NoSuchNumber) (r ++ n) ≡ Ok x → InImage image x × (x.number ≡ number)
    in_list r n l z =
        let all = all_append (InImage image) r n l.resident_inside l.nonresident_inside in
        let behind : suc (length r) ≡ 1 + length r = omega arith in
        let order = numbered_append (λ (n : Name). n.number) 1 r n l.resident_numbers (rw behind at l.nonresident_numbers) in
        let first = numbered_first Ok (λ (n : Name). n.number) number (Err NoSuchNumber) (r ++ n) order in
        first_holds Ok (λ (n : Name). eqb n.number number) (Err NoSuchNumber) (InImage image) (λ (a : Result Name Refusal). a ≡ Ok x → InImage image x × (x.number ≡ number)) (r ++ n) all (λ q. never cc) (λ y i t q. let is : x ≡ y = cc in (rw is i, rw is (eqb-true _ _ t))) (first ∙ z)

second : (P : Name → Type 0) (ns : List Name) → All P ns → All P (drop 1 ns)
second P [] p = tt
second P (n ∷ ns) p = p.1

pub bytes_accepted : (image name : List ℕ) (x : Name) → name_by_bytes image name ≡ Ok x → InImage image x × (text_of image x ≡ name)
unfolding name_by_bytes
bytes_accepted image name x e = from_query image (λ r n. first_of (λ n. same (text_of image n) name) Ok (Err NoSuchName) (drop 1 r ++ drop 1 n)) x (InImage image x × (text_of image x ≡ name)) e in_list
  where
    in_list : (r n : List Name) → Lists image r n → first_of (λ n. same (text_of image n) name) Ok (Err NoSuchName) (drop 1 r ++ drop 1 n) ≡ Ok x → InImage image x × (text_of image x ≡ name)
    in_list r n l =
        let all = all_append (InImage image) (drop 1 r) (drop 1 n) (second (InImage image) r l.resident_inside) (second (InImage image) n l.nonresident_inside) in
        first_holds Ok (λ (n : Name). same (text_of image n) name) (Err NoSuchName) (InImage image) (λ (a : Result Name Refusal). a ≡ Ok x → InImage image x × (text_of image x ≡ name)) (drop 1 r ++ drop 1 n) all (λ q. never cc) (λ y i t q. let is : x ≡ y = cc in (rw is i, rw is (same_is (text_of image y) name t)))

-- "An empty or over-long name asked for isn't found.", here and below.
pub bytes_length : (image name : List ℕ) (x : Name) → name_by_bytes image name ≡ Ok x → (length name ≡ x.len) × (0 < length name)
bytes_length image name x e =
    let a = bytes_accepted image name x e in
    let behind = length-drop x.at image in
    let room : x.len ≤ length (drop x.at image) = omega (arith, behind, a.0.inside) in
    let text : length (text_of image x) ≡ x.len = length-take-le x.len (drop x.at image) room in
    let size : length name ≡ x.len = sym (ap length a.1) ∙ text in
    (size, omega (arith, size, a.0.some))

pub bytes_short : (image name : List ℕ) (x : Name) → Bytes image → name_by_bytes image name ≡ Ok x → length name ≤ 255
bytes_short image name x bytes e =
    let a = bytes_accepted image name x e in
    let size = bytes_length image name x e in
    let byte = bytes (x.at - 1) in
    omega (arith, size.0, a.0.length_byte, byte)
