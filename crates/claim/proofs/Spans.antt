-- A span of the marks as the slice of its bytes.
--     taken_any   whether one of them is marked
--     answers     what claiming the slice answers is what claiming the span does
--     leaves      and it leaves the same marks
--     taken_number  a span has a marked byte exactly if its bytes, read as a number, are not 0
--     any_number    so it is with a slice of that many bytes
-- Assumes nothing.
use Rattle.std.proofs.Common.{◌≡◌, refl, sym, ap, ◌∙◌, Bool, true, false, not, ◌||◌, ◌*◌, cond, nat_eq, List, ℕ, zero, suc, ◌+◌, ◌≤◌, ◌<◌, length, take, drop, drop-cons, replicate, Result, Ok, Err, MatchResult, arith}
use Rattle.std.proofs.lemmas.List.{length-replicate, take-replicate}
use Rattle.std.proofs.lemmas.Grind.{common_steps}
use Rattle.std.specs.List.{list_any}
use borrow.Author.Tests.{le-ltb, eq-eqb, ne_eqb, eqb-true, eqb-false}
use borrow.Rule.Slice.PartMut.{put_mid, put_same}
use Rattle.std.proofs.lemmas.Slice.{put_mid-paste}
use lib.Seq.{take-length}
use Rattle.std.proofs.lemmas.List.Edits.{sets-eq}
use Rattle.refusal.specs.declared.Refusal.{Refusal}
use Rattle.refusal.specs.declared.Refusal.TheVariants.{SpanTaken}
use Rattle.le.specs.Number.{byte_at, number}
use Rattle.claim.specs.Internal.{taken, claim_of, marks_after}

pub taken_any : (width : ℕ) (marks : List ℕ) (at : ℕ) → at + width ≤ length marks → list_any (λ mark. not (nat_eq mark 0)) (take width (drop at marks)) ≡ taken width marks at
unfolding taken
taken_any zero marks at h = refl
taken_any (suc width) marks at h =
    let here : at < length marks = omega arith in
    rw (drop-cons marks at 0) (rw (taken_any width marks (suc at) (omega arith)) refl)

-- The slice has as many bytes as the span is wide.
module _ (marks : List ℕ) (at k width : ℕ) (size : k ≡ width) (inside : at + width ≤ length marks) where
  pub answers : (answer : Result Unit Refusal) → answer ≡ cond (list_any (λ mark. not (nat_eq mark 0)) (take k (drop at marks))) (Err SpanTaken) (Ok tt) → answer ≡ claim_of marks at width
  unfolding claim_of
  answers answer e = rw (le-ltb (length marks) (at + width) inside) (e ∙ rw (size, taken_any width marks at inside) refl)

  pub leaves : (answer : Result Unit Refusal) (bytes : List ℕ) → MatchResult answer (λ done. bytes ≡ replicate (length (take k (drop at marks))) 1) (λ why. bytes ≡ take k (drop at marks)) → put_mid at k marks bytes ≡ marks_after answer marks at width
  leaves (Ok done) bytes e =
      let long : length (take k (drop at marks)) ≡ width = grind (arith, common_steps) in
      let all : bytes ≡ replicate width 1 = rw long at e in
      let fits : at + length (replicate {A = ℕ} width 1) ≤ length marks = omega (arith, length-replicate {A = ℕ} width 1) in
      put_mid-paste at k marks bytes (replicate width 1) width all (sym size) (sym (length-replicate width 1)) ∙ rw (take-replicate {X = ℕ} width width 1 (omega arith), sets-eq (replicate width 1) marks at fits, length-replicate {A = ℕ} width 1) refl
  leaves (Err why) bytes e = rw e (put_same at k marks)

not_zero : (low rest : ℕ) → not (nat_eq (low + 256 * rest) 0) ≡ (not (nat_eq low 0) || not (nat_eq rest 0))
not_zero low rest = go (nat_eq low 0) (nat_eq rest 0) refl refl
  where
    go : (a b : Bool) → nat_eq low 0 ≡ a → nat_eq rest 0 ≡ b → not (nat_eq (low + 256 * rest) 0) ≡ (not a || not b)
    go true true p q = rw (eq-eqb (low + 256 * rest) 0 (omega (arith, eqb-true low 0 p, eqb-true rest 0 q)))
    go true false p q = rw (ne_eqb (low + 256 * rest) 0 (λ e. eqb-false rest 0 q (omega arith)))
    go false b p q = rw (ne_eqb (low + 256 * rest) 0 (λ e. eqb-false low 0 p (omega arith)))

pub taken_number : (width : ℕ) (marks : List ℕ) (at : ℕ) → taken width marks at ≡ not (nat_eq (number width marks at) 0)
unfolding taken number
taken_number zero marks at = refl
taken_number (suc width) marks at = rw (taken_number width marks (suc at)) (sym (not_zero (byte_at marks at) (number width marks (suc at))))

pub any_number : (width : ℕ) (bytes : List ℕ) → length bytes ≡ width → list_any (λ mark. not (nat_eq mark 0)) bytes ≡ not (nat_eq (number width bytes 0) 0)
any_number width bytes size =
    let all : bytes ≡ take width bytes = rw (sym size) (sym (take-length bytes)) in
    ap (list_any (λ mark. not (nat_eq mark 0))) all ∙ taken_any width bytes 0 (omega (arith, size)) ∙ taken_number width bytes 0
