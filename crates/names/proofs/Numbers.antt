-- What holds of all names of a sound list.
--     numbers      they have their numbers, one after the other
--     few          each takes 4 bytes at least
--     bounded      each lies inside the limit, isn't empty, and has a number that its place bounds
-- Assumes nothing.
use mathlib.Core.Path.{◌≡◌, refl, ap}
use mathlib.Core.List.{List, [], ◌∷◌, ◌++◌}
use Prim.Native.Nat.{ℕ, suc, ◌+◌, ◌*◌, ◌-◌, ◌≤◌, ◌<◌}
use native.Mathlib.Omega.{arith}
use lib.ListN.{length}
use Rattle.le.specs.Number.{byte_at}
use Rattle.refusal.specs.declared.Refusal.{Refusal}
use Rattle.tables.specs.Table.{Place, Next, Sound}
use Rattle.lists.specs.Lists.{All}
use Rattle.lists.proofs.All.{all_map}
use Rattle.tables.proofs.Query.{Numbered}
use Rattle.tables.proofs.Induction.{sound_table, table_numbers}
use Rattle.names.specs.declared.Name.{Name}
use Rattle.names.specs.Names.{name_at, behind, step_of, list_from}
use Rattle.names.proofs.Listed.{went, end_inside}

-- What is known of a name in a list that starts at `p`.
pub record Bounded (image : List ℕ) (limit : ℕ) (p : Place) (n : Name) : Type 0 where
  pub some : 0 < n.len
  pub length_byte : n.len ≡ byte_at image (n.at - 1)
  pub fits : n.at + n.len + 2 ≤ limit
  pub number : n.number + p.at ≤ p.used + n.at

module _ (image : List ℕ) (limit : ℕ) (why : Refusal) where
  -- The induction over a list, name by name.
  by_name : (P : Place → List Name → Type 0) → ((p : Place) → p.at + 1 ≤ limit → P p []) → ((p : Place) (ns : List Name) → 0 < byte_at image p.at → p.at + 1 + byte_at image p.at + 2 ≤ limit → P (behind (name_at image p)) ns → P p (name_at image p ∷ ns)) → (at used : ℕ) (ns : List Name) → list_from image limit why at used ≡ Sound ns → P (record { at = at; used = used }) ns
  by_name P none more at used ns e = sound_table (step_of image limit why) why P (λ p q. none p (end_inside image limit why p q)) step limit (record { at = at; used = used }) ns e
    where
      step : (p : Place) (xs : List Name) (t : Place) (ys : List Name) → step_of image limit why p ≡ Next xs t → P t ys → P p (xs ++ ys)
      step p xs t ys q rest =
          let w = went image limit why p xs t q in
          rw w.name (more p ys w.some w.fits (rw w.place at rest))

  pub numbers : (at used : ℕ) (ns : List Name) → list_from image limit why at used ≡ Sound ns → Numbered (λ (n : Name). n.number) (suc used) ns
  numbers at used ns e = table_numbers (step_of image limit why) why (λ (n : Name). n.number) one limit (record { at = at; used = used }) ns e
    where
      one : (p : Place) (xs : List Name) (t : Place) → step_of image limit why p ≡ Next xs t → Numbered (λ (n : Name). n.number) (suc p.used) xs × (t.used ≡ p.used + length xs)
      one p xs t q =
          let w = went image limit why p xs t q in
          rw (w.name, w.place) ((omega arith, tt), refl)

  pub few : (at used : ℕ) (ns : List Name) → list_from image limit why at used ≡ Sound ns → at + 4 * length ns ≤ limit
  few = by_name (λ (p : Place) (ns : List Name). p.at + 4 * length ns ≤ limit) (λ p h. omega arith) (λ p ns some fits rest. omega (arith, some, rest))

  before : (p : Place) → byte_at image p.at ≡ byte_at image (p.at + 1 - 1)
  before p = let same : p.at ≡ p.at + 1 - 1 = omega arith in ap (byte_at image) same

  pub bounded : (at used : ℕ) (ns : List Name) → list_from image limit why at used ≡ Sound ns → All (Bounded image limit (record { at = at; used = used })) ns
  bounded = by_name (λ (p : Place) (ns : List Name). All (Bounded image limit p) ns) (λ p h. tt) (λ p ns some fits rest. (record { some = some; length_byte = before p; fits = fits; number = omega arith }, all_map (Bounded image limit (behind (name_at image p))) (Bounded image limit p) (λ n b. record { some = b.some; length_byte = b.length_byte; fits = b.fits; number = omega (arith, b.number) }) ns rest))
