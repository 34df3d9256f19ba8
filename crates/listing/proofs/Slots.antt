-- How the lines of a bundle are written: none, or the next one after those before it.
-- Assumes nothing.
use Rattle.std.proofs.Common.{◌≡◌, ◌∙◌, ap, sym, List, ◌++◌, append_assoc, ℕ, zero, suc, ◌+◌, ◌*◌, arith, drop, add-one}
use Rattle.std.proofs.lemmas.List.{append-nil}
use native.Mathlib.Nat.{mul-suc}
use Rattle.bundle.specs.declared.Kind.{Kind}
use Rattle.bundle.specs.Bundle.{width_of, entry_of}
use Rattle.listing.specs.Listing.{answer_line}
use Rattle.listing.specs.Internal.{Writes, slot_lines}
use Rattle.listing.specs.declared.text.Writer.{Writer}
use Rattle.listing.proofs.Writing.{nothing, then}

module _ (table : List ℕ) (kind : Kind) where
  slots_append : (count number at : ℕ) → slot_lines (suc count) table kind number at ≡ slot_lines count table kind number at ++ answer_line (number + count) (entry_of kind (drop (at + width_of kind * count) table))
  unfolding slot_lines
  slots_append zero number at =
      let number_is : number + 0 ≡ number = omega arith in
      let place : at + width_of kind * 0 ≡ at = omega arith in
      rw (number_is, place) (append-nil (answer_line number (entry_of kind (drop at table))))
  slots_append (suc count) number at =
      let number_is : number + suc count ≡ number + 1 + count = omega arith in
      let place : at + width_of kind * suc count ≡ at + width_of kind + width_of kind * count = rw mul-suc (omega arith) in
      rw (number_is, place) (ap (answer_line number (entry_of kind (drop at table)) ++◌) (slots_append count (number + 1) (at + width_of kind)) ∙ sym (append_assoc (answer_line number (entry_of kind (drop at table))) (slot_lines count table kind (number + 1) (at + width_of kind)) _))

pub slots_none : (w : Writer) (table : List ℕ) (kind : Kind) (number at : ℕ) → Writes w (slot_lines 0 table kind number at) w
unfolding slot_lines
slots_none w table kind number at = nothing w

pub slots_more : (u v w : Writer) (table : List ℕ) (kind : Kind) (number at count : ℕ) → Writes u (slot_lines count table kind number at) v → Writes v (answer_line (number + count) (entry_of kind (drop (at + width_of kind * count) table))) w → Writes u (slot_lines (count + 1) table kind number at) w
slots_more u v w table kind number at count first next = rw (add-one, slots_append table kind count number at) (then first next)
