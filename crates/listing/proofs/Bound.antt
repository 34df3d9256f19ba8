-- The law of a listing's length: none is longer than `most`.
-- Assumes nothing.
use Rattle.std.specs.Prelude.{Result, Ok, Err}
use mathlib.Core.Path.{◌≡◌, refl, ◌∙◌}
use mathlib.Core.Bool.{Bool, true, false, cond}
use mathlib.Core.List.{List, [], ◌∷◌, ◌++◌}
use Prim.Native.Nat.{ℕ, zero, suc, ◌+◌, ◌*◌, ◌-◌, ◌^◌, ◌≤◌, ◌<◌}
use native.Mathlib.Omega.{arith}
use native.Mathlib.Nat.{mul-suc, le_trans}
use lib.Dec.{ltb}
use lib.ListN.{length, length-append, length-take, length-drop, drop}
use borrow.Author.Tests.{ltb-false}
use Rattle.refusal.specs.Number.{number_of}
use Rattle.header.specs.Header.{header_of}
use Rattle.checks.specs.Onward.{on_result}
use Rattle.header.specs.declared.Header.{Header}
use Rattle.refusal.specs.declared.Refusal.{Refusal}
use Rattle.bundle.specs.declared.Kind.{Kind}
use Rattle.bundle.specs.declared.Kind.TheVariants.{Null, Movable, Fixed}
use Rattle.bundle.specs.declared.Bundle.{Bundle}
use Rattle.bundle.specs.declared.Entry.{Entry}
use Rattle.bundle.specs.Bundle.{width_of, entry_of}
use Rattle.tables.specs.Table.{Sound, Unsound}
use Rattle.entry.specs.Table.{EntryTable, table_of, ordinals_in}
use Rattle.entry.specs.Ordinal.{table_bytes, in_table}
use Rattle.entry.proofs.Follow.{ordinals_few}
use Rattle.bundle.specs.Internal.{Went}
use Rattle.entry.proofs.Induction.{sound_table}
use Rattle.listing.specs.Text.{ascii, digits_of, decimal_width, decimal_of, hex_of}
use Rattle.listing.specs.Listing.{number_line, refused_of, line_of, answer_line, table_listing, lines_from, entries_of, lines_of, listing_of, most}
use Rattle.listing.specs.Internal.{slot_lines, bundle_lines, bundles_lines}
use Rattle.listing.proofs.Digits.{digits_length}
use Rattle.listing.proofs.ByBundle.{by_bundle}

decimal_short : (n : ℕ) → decimal_width n ≤ 5
unfolding decimal_width
decimal_short n = go (ltb n 10) (ltb n 100) (ltb n 1000) (ltb n 10000)
  where
    go : (a b c d : Bool) → cond a 1 (cond b 2 (cond c 3 (cond d 4 5))) ≤ 5
    go true b c d = omega arith
    go false true c d = omega arith
    go false false true d = omega arith
    go false false false true = omega arith
    go false false false false = omega arith

-- A number and a byte.
number_size : (base width n b : ℕ) → length (digits_of base width n ++ (b ∷ [])) ≡ width + 1
number_size base width n b = length-append (digits_of base width n) (b ∷ []) ∙ rw (digits_length base width n)

number_line_short : (word : List ℕ) (n : ℕ) → length (number_line word n) ≤ length word + 6
number_line_short word n =
    let number = number_size 10 (decimal_width n) n 10 in
    let all = length-append word (decimal_of n ++ ascii "\n") in
    omega (arith, decimal_short n, number, all)

line_short : (number : ℕ) (e : Entry) → length (line_of number e) ≤ 20
unfolding line_of
line_short number e =
    let ordinal = number_size 10 (decimal_width number) number 32 in
    let segment = number_size 10 (decimal_width e.segment) e.segment 58 in
    let offset = number_size 16 4 e.offset 32 in
    let flag = number_size 16 2 e.flag 10 in
    let one = length-append (hex_of 4 e.offset ++ ascii " ") (hex_of 2 e.flag ++ ascii "\n") in
    let two = length-append (decimal_of e.segment ++ ascii ":") ((hex_of 4 e.offset ++ ascii " ") ++ (hex_of 2 e.flag ++ ascii "\n")) in
    let three = length-append (decimal_of number ++ ascii " ") ((decimal_of e.segment ++ ascii ":") ++ ((hex_of 4 e.offset ++ ascii " ") ++ (hex_of 2 e.flag ++ ascii "\n"))) in
    omega (arith, decimal_short number, decimal_short e.segment, ordinal, segment, offset, flag, one, two, three)

answer_short : (kind : Kind) (number : ℕ) (e : List ℕ) → length (answer_line number (entry_of kind e)) ≤ 7 * width_of kind
answer_short Null number e = omega arith
answer_short Movable number e = let room : 20 ≤ 7 * 6 = omega arith in le_trans (line_short number _) room
answer_short (Fixed segment) number e = let room : 20 ≤ 7 * 3 = omega arith in le_trans (line_short number _) room

slots_short : (count : ℕ) (table : List ℕ) (kind : Kind) (number at : ℕ) → length (slot_lines count table kind number at) ≤ 7 * (width_of kind * count)
unfolding slot_lines
slots_short zero table kind number at = omega arith
slots_short (suc count) table kind number at =
    let here = answer_short kind number (drop at table) in
    let rest = slots_short count table kind (number + 1) (at + width_of kind) in
    let all = length-append (answer_line number (entry_of kind (drop at table))) (slot_lines count table kind (number + 1) (at + width_of kind)) in
    rw mul-suc (omega (arith, here, rest, all))

module _ (table : List ℕ) (segments : ℕ) where
  bundles_short : (bs : List Bundle) → table_of table segments ≡ Sound bs → length (bundles_lines table bs) ≤ 7 * length table
  unfolding bundles_lines
  bundles_short bs e =
      let all = sound_table table segments (λ at used bs. length (bundles_lines table bs) ≤ 7 * (length table - at)) (λ at used. omega arith) one bs e in
      omega (arith, all)
    where
      one : (at used : ℕ) (b : Bundle) (bs : List Bundle) → Went table at used b → length (bundles_lines table bs) ≤ 7 * (length table - b.end) → length (bundles_lines table (b ∷ bs)) ≤ 7 * (length table - at)
      one at used b bs w later =
          let here = slots_short b.count table b.kind (b.used + 1) b.at in
          let all = length-append (bundle_lines table b) (bundles_lines table bs) in
          omega (arith, here, later, all, w.on, w.size, w.end)

  table_short : (t : EntryTable) → table_of table segments ≡ t → length (table_listing table t) ≤ 7 * length table + 19
  table_short (Unsound why) e = let h = number_line_short (ascii "refused ") (number_of why) in omega (arith, h)
  table_short (Sound bs) e =
      let count = number_line_short (ascii "ordinals ") (ordinals_in bs) in
      let lines = bundles_short bs e in
      let text = number_line (ascii "ordinals ") (ordinals_in bs) in
      let inner = length-append (bundles_lines table bs) (ascii "end\n") in
      let all = length-append text (bundles_lines table bs ++ ascii "end\n") in
      rw (by_bundle table segments bs e) (omega (arith, count, lines, inner, all))

entries_short : (image : List ℕ) (h : Header) → length (entries_of image h) ≤ 7 * length image + 19
unfolding entries_of
entries_short image h =
    let table = table_bytes image h in
    let part : length table ≤ length image = rw (length-take h.entries.count (drop h.entries.at image), length-drop h.entries.at image) (omega arith) in
    let whole = table_short table h.segments.count (table_of table h.segments.count) refl in
    omega (arith, part, whole)

lines_from_short : (count number : ℕ) (answer : ℕ → Result Entry Refusal) → length (lines_from count number answer) ≤ 20 * count
unfolding lines_from
lines_from_short zero number answer = omega arith
lines_from_short (suc count) number answer =
    let rest = lines_from_short count (number + 1) answer in
    let all = length-append (answer_line number (answer number)) (lines_from count (number + 1) answer) in
    omega (arith, one (answer number), rest, all)
  where
    one : (a : Result Entry Refusal) → length (answer_line number a) ≤ 20
    one (Ok e) = line_short number e
    one (Err why) = omega arith

table_fits : (table : List ℕ) (segments : ℕ) (t : EntryTable) → table_of table segments ≡ t → length (table_listing table t) < 2 ^ 64
table_fits table segments (Unsound why) e = let h = number_line_short (ascii "refused ") (number_of why) in omega (arith, h)
table_fits table segments (Sound bs) e =
    let few = ordinals_few table segments bs e in
    let count = number_line_short (ascii "ordinals ") (ordinals_in bs) in
    let lines = lines_from_short (ordinals_in bs) 1 (in_table table (Sound bs)) in
    let inner = length-append (lines_from (ordinals_in bs) 1 (in_table table (Sound bs))) (ascii "end\n") in
    let all = length-append (number_line (ascii "ordinals ") (ordinals_in bs)) (lines_from (ordinals_in bs) 1 (in_table table (Sound bs)) ++ ascii "end\n") in
    omega (arith, few, count, lines, inner, all)

-- The length of a listing can be counted, whatever the size of the image.
pub lines_fit : (image : List ℕ) → length (lines_of image) < 2 ^ 64
unfolding lines_of entries_of
lines_fit image = go (header_of image)
  where
    go : (a : Result Header Refusal) → length (on_result a refused_of λ h. entries_of image h) < 2 ^ 64
    go (Err why) = let h = number_line_short (ascii "refused ") (number_of why) in omega (arith, h)
    go (Ok h) = table_fits (table_bytes image h) h.segments.count (table_of (table_bytes image h) h.segments.count) refl

pub listing_short : (image : List ℕ) → length (listing_of image) ≤ most
unfolding lines_of listing_of
listing_short image = go (ltb 65536 (length image)) refl (header_of image)
  where
    go : (long : Bool) → ltb 65536 (length image) ≡ long → (a : Result Header Refusal) → length (cond long (ascii "too long\n") (on_result a refused_of λ h. entries_of image h)) ≤ most
    go true q a = omega arith
    go false q (Err why) = let h = number_line_short (ascii "refused ") (number_of why) in omega (arith, h)
    go false q (Ok h) = omega (arith, entries_short image h, ltb-false 65536 (length image) q)
