-- Two calls that differ in their lists alone are related as their outcomes for the same segment are.
-- Assumes nothing.
use Rattle.std.specs.Prelude.{Result, Ok, Err}
use mathlib.Core.Path.{◌≡◌, refl}
use mathlib.Core.Bool.{Bool, true, false}
use mathlib.Core.List.{List, [], ◌∷◌}
use Prim.Native.Nat.{ℕ, ◌-◌}
use Rattle.checks.specs.Checks.{◌⇒◌, decide}
use Rattle.refusal.specs.declared.Refusal.TheVariants.{NoSuchNumber}
use Rattle.header.specs.Header.{header_of, lacks}
use Rattle.checks.specs.Onward.{on_result}
use Rattle.header.specs.declared.Header.{Header}
use Rattle.refusal.specs.declared.Refusal.{Refusal}
use Rattle.segment.specs.Segment.{record_of}
use Rattle.segment.specs.declared.Segment.{Segment}
use Rattle.tables.specs.Table as tables
use Rattle.tables.specs.Table.{on_table}
use Rattle.entry.specs.Table.{EntryTable}
use Rattle.prepare.specs.Prepare.{Request, Outcome, refuse, entries_of, prepare_of}
use Rattle.prepare.specs.Alike.{with_lists}
use Rattle.prepare.proofs.Ready.{sized}

module _ (q : Request) (selectors answers : List ℕ) (R : Outcome → Outcome → Type 0) (same : (o : Outcome) → R o o) (of_segment : (h : Header) (s : Segment) → header_of q.image ≡ Ok h → record_of q.image h (q.number - 1) ≡ Ok s → R (sized q h s) (sized (with_lists q selectors answers) h s)) where
  -- What follows of a header, once the number is known good.
  abbrev from_table : Request → Header → EntryTable → Result Segment Refusal → Outcome
  from_table r h t a = on_table t refuse (λ bundles. on_result a refuse (sized r h))

  of_table : (h : Header) → header_of q.image ≡ Ok h → (t : EntryTable) (a : Result Segment Refusal) → record_of q.image h (q.number - 1) ≡ a → R (from_table q h t a) (from_table (with_lists q selectors answers) h t a)
  of_table h good (tables.Unsound why) a e = same (refuse why)
  of_table h good (tables.Sound bundles) (Ok s) e = of_segment h s good e
  of_table h good (tables.Sound bundles) (Err why) e = same (refuse why)

  of_number : (h : Header) → header_of q.image ≡ Ok h → (lacking : Bool) (a : Result Segment Refusal) → record_of q.image h (q.number - 1) ≡ a → R (decide refuse ((lacking ⇒ NoSuchNumber) ∷ []) (from_table q h (entries_of q h) a)) (decide refuse ((lacking ⇒ NoSuchNumber) ∷ []) (from_table (with_lists q selectors answers) h (entries_of q h) a))
  of_number h good true a e = same (refuse NoSuchNumber)
  of_number h good false a e = of_table h good (entries_of q h) a e

  pub related : R (prepare_of q) (prepare_of (with_lists q selectors answers))
  unfolding prepare_of
  related = go (header_of q.image) refl
    where
      go : (a : Result Header Refusal) → header_of q.image ≡ a → R (prepare_of q) (prepare_of (with_lists q selectors answers))
      go (Ok h) e = rw e (of_number h e (lacks h.segments.count q.number) (record_of q.image h (q.number - 1)) refl)
      go (Err why) e = rw e (same (refuse why))
