-- The lines of a sound table, bundle by bundle, are those of its ordinals, one after the other.
-- Assumes nothing.
use Rattle.std.specs.Prelude.{Result}
use mathlib.Core.Path.{◌≡◌, refl, ap, sym, ◌∙◌}
use mathlib.Core.Logic.{inl, inr}
use mathlib.Core.List.{List, [], ◌∷◌, ◌++◌, append_assoc}
use Prim.Native.Nat.{ℕ, zero, suc, ◌+◌, ◌*◌, ◌-◌, ◌≤◌, ◌<◌}
use native.Mathlib.Omega.{arith}
use native.Mathlib.Nat.{mul-suc, zero-add, suc-add}
use native.Mathlib.Numerals.{add-one}
use lib.ListN.{drop}
use Rattle.bundle.specs.declared.Bundle.{Bundle}
use Rattle.bundle.specs.declared.Entry.{Entry}
use Rattle.refusal.specs.declared.Refusal.{Refusal}
use Rattle.bundle.specs.Bundle.{width_of, entry_of}
use Rattle.tables.specs.Table.{Sound}
use Rattle.entry.specs.Table.{table_of, ordinals_in}
use Rattle.entry.specs.Ordinal.{in_table}
use Rattle.entry.specs.Covered.{Among}
use Rattle.entry.proofs.Follow.{Follow, sound_follow}
use Rattle.entry.proofs.Resolves.{entry_in}
use Rattle.listing.specs.Listing.{answer_line, lines_from}
use Rattle.listing.specs.Internal.{slot_lines, bundle_lines, bundles_lines}

lines_append : (m n number : ℕ) (answer : ℕ → Result Entry Refusal) → lines_from (m + n) number answer ≡ lines_from m number answer ++ lines_from n (number + m) answer
unfolding lines_from
lines_append zero n number answer = let same : number + 0 ≡ number = omega arith in rw (zero-add, same)
lines_append (suc m) n number answer =
    let same : number + suc m ≡ number + 1 + m = omega arith in
    rw (suc-add, same) (ap (answer_line number (answer number) ++◌) (lines_append m n (number + 1) answer) ∙ sym (append_assoc (answer_line number (answer number)) (lines_from m (number + 1) answer) (lines_from n (number + 1 + m) answer)))

both : {a b m n : List ℕ} → a ≡ m → b ≡ n → a ++ b ≡ m ++ n
both p q = rw (p, q)

module _ (table : List ℕ) (all : List Bundle) (follow : Follow 0 all) where
  -- The ordinals of a bundle from its `i`th on.
  in_bundle : (b : Bundle) → Among b all → (left i : ℕ) → i + left ≡ b.count → lines_from left (b.used + 1 + i) (in_table table (Sound all)) ≡ slot_lines left table b.kind (b.used + 1 + i) (b.at + width_of b.kind * i)
  unfolding lines_from slot_lines
  in_bundle b m zero i e = refl
  in_bundle b m (suc left) i e =
      let number = b.used + 1 + i in
      let above : b.used < number = omega arith in
      let within : number ≤ b.used + b.count = omega arith in
      let index : number - 1 - b.used ≡ i = omega arith in
      let here : in_table table (Sound all) number ≡ entry_of b.kind (drop (b.at + width_of b.kind * i) table) = entry_in table all b number follow m above within ∙ rw index in
      let next : b.used + 1 + (i + 1) ≡ number + 1 = omega arith in
      let place : b.at + width_of b.kind * (i + 1) ≡ b.at + width_of b.kind * i + width_of b.kind = rw (add-one, mul-suc) (omega arith) in
      let counted : i + 1 + left ≡ b.count = omega arith in
      let rest = in_bundle b m left (i + 1) counted in
      ap (λ (a : Result Entry Refusal). answer_line number a ++ lines_from left (number + 1) (in_table table (Sound all))) here
      ∙ ap (answer_line number (entry_of b.kind (drop (b.at + width_of b.kind * i) table)) ++◌) (rw (next, place) at rest)

  in_order : (used : ℕ) (bs : List Bundle) → Follow used bs → ((b : Bundle) → Among b bs → Among b all) → lines_from (ordinals_in bs) (used + 1) (in_table table (Sound all)) ≡ bundles_lines table bs
  unfolding ordinals_in bundles_lines lines_from
  in_order used [] f m = refl
  in_order used (b ∷ bs) f m =
      let first : b.used + 1 + 0 ≡ b.used + 1 = omega arith in
      let place : b.at + width_of b.kind * 0 ≡ b.at = omega arith in
      let number : used + 1 ≡ b.used + 1 = omega (arith, f.0) in
      let later : used + b.count + 1 ≡ used + 1 + b.count = omega arith in
      let all-of-it : 0 + b.count ≡ b.count = omega arith in
      let here : lines_from b.count (b.used + 1) (in_table table (Sound all)) ≡ bundle_lines table b = rw (first, place) at (in_bundle b (m b (inl refl)) b.count 0 all-of-it) in
      let rest = in_order (used + b.count) bs f.1 (λ c k. m c (inr k)) in
      lines_append b.count (ordinals_in bs) (used + 1) (in_table table (Sound all))
      ∙ both (ap (λ n. lines_from b.count n (in_table table (Sound all))) number ∙ here) (ap (λ n. lines_from (ordinals_in bs) n (in_table table (Sound all))) (sym later) ∙ rest)

pub by_bundle : (table : List ℕ) (segments : ℕ) (bs : List Bundle) → table_of table segments ≡ Sound bs → lines_from (ordinals_in bs) 1 (in_table table (Sound bs)) ≡ bundles_lines table bs
by_bundle table segments bs e = in_order table bs (sound_follow table segments bs e) 0 bs (sound_follow table segments bs e) (λ b m. m)
