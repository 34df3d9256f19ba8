-- The checks by their parts.
--     unsound, sound   what a walk of the entry table says of what follows
--     by_header        a header that is refused
--     by_parts         of a sound one: the segment, then the sizes
--     by_segment       a segment that is refused
--     by_sizes         of one that is found, the sizes
-- Assumes nothing.
use Rattle.std.specs.Prelude.{Result, Ok, Err}
use mathlib.Core.Path.{◌≡◌, ◌∙◌, refl}
use mathlib.Core.Bool.{Bool, true, false}
use mathlib.Core.List.{[], ◌∷◌}
use Prim.Native.Nat.{ℕ, ◌-◌}
use Rattle.checks.specs.Checks.{◌⇒◌, decide}
use Rattle.checks.proofs.Impossible.{never}
use Rattle.refusal.specs.declared.Refusal.{Refusal}
use Rattle.refusal.specs.declared.Refusal.TheVariants.{NoSuchNumber}
use Rattle.header.specs.Header.{header_of, lacks}
use Rattle.checks.specs.Onward.{on_result}
use Rattle.header.specs.declared.Header.{Header}
use Rattle.ready.specs.declared.Passed.{Passed}
use Rattle.segment.specs.declared.Segment.{Segment}
use Rattle.segment.specs.Segment.{record_of}
use Rattle.tables.specs.Table.{on_table, Sound, Unsound}
use Rattle.entry.specs.Table.{EntryTable}
use Rattle.entry.specs.Internal.{walk_of}
use Rattle.entry.specs.declared.Found.{Found}
use Rattle.prepare.specs.Prepare.{Request, entries_of, size_checks}
use Rattle.ready.specs.Internal.{ready_of, found_of, sized_of}

pub unsound : {A : Type 0} (t : EntryTable) (number : ℕ) (why : Refusal) (refuse : Refusal → A) (go : A) → walk_of t number ≡ Err why → refuse why ≡ on_table t refuse (λ bundles. go)
unsound (Sound bs) number why refuse go e = never cc
unsound (Unsound other) number why refuse go e = let is : why ≡ other = cc in rw is

pub sound : {A : Type 0} (t : EntryTable) (number : ℕ) (f : Found) (refuse : Refusal → A) (go : A) → walk_of t number ≡ Ok f → go ≡ on_table t refuse (λ bundles. go)
sound (Sound bs) number f refuse go e = refl
sound (Unsound other) number f refuse go e = never cc

module _ (q : Request) where
  pub by_header : (why : Refusal) → header_of q.image ≡ Err why → ready_of q ≡ Err why
  unfolding ready_of
  by_header why e = rw e

  module _ (h : Header) where
    -- What follows of a segment.
    abbrev on : Result Segment Refusal → Result Passed Refusal
    on a = on_result a Err (λ s. sized_of h s q.selectors q.answers q.output q.marks)

    of_table : (t : EntryTable) (a : Result Segment Refusal) → on_table t Err (λ bundles. on a) ≡ on (on_table t Err (λ bundles. a))
    of_table (Sound bs) a = refl
    of_table (Unsound why) a = refl

    of_number : (lacking : Bool) (t : EntryTable) (a : Result Segment Refusal) → decide Err ((lacking ⇒ NoSuchNumber) ∷ []) (on_table t Err (λ bundles. on a)) ≡ on (decide Err ((lacking ⇒ NoSuchNumber) ∷ []) (on_table t Err (λ bundles. a)))
    of_number true t a = refl
    of_number false t a = of_table t a

    pub by_parts : header_of q.image ≡ Ok h → ready_of q ≡ on (found_of q.image h q.number)
    unfolding ready_of found_of sized_of size_checks
    by_parts e = rw e (of_number (lacks h.segments.count q.number) (entries_of q h) (record_of q.image h (q.number - 1)))

    pub by_segment : (why : Refusal) → header_of q.image ≡ Ok h → found_of q.image h q.number ≡ Err why → ready_of q ≡ Err why
    by_segment why e lost = by_parts e ∙ rw lost

    pub by_sizes : (s : Segment) → header_of q.image ≡ Ok h → found_of q.image h q.number ≡ Ok s → ready_of q ≡ sized_of h s q.selectors q.answers q.output q.marks
    by_sizes s e found = by_parts e ∙ rw found
