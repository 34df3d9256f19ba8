-- The induction over a sound table: what holds of the empty list at the end, and of the elements that stand at a place in
-- front of a list of which it holds, holds of the table from any place on. So it is with the elements' numbers.
-- Assumes nothing.
use mathlib.Core.Path.{◌≡◌, refl}
use mathlib.Core.List.{List, [], ◌++◌}
use Prim.Native.Nat.{ℕ, zero, suc, ◌+◌}
use native.Mathlib.Omega.{arith}
use lib.ListN.{length}
use Rattle.checks.proofs.Impossible.{never}
use Rattle.tables.specs.Table.{Place, Step, Next, End, Stop, Table, Sound, Unsound, after, on_step, table_from, table_of}
use Rattle.tables.proofs.Query.{Numbered, numbered_append}

module _ {A W : Type 0} (step : Place → Step A W) (late : W) (P : Place → List A → Type 0) (none : (s : Place) → step s ≡ End → P s []) (more : (s : Place) (xs : List A) (t : Place) (ys : List A) → step s ≡ Next xs t → P t ys → P s (xs ++ ys)) where
  behind : (s : Place) (xs : List A) (t : Place) (rest : Table A W) (all : List A) → step s ≡ Next xs t → ((ys : List A) → rest ≡ Sound ys → P t ys) → after xs rest ≡ Sound all → P s all
  behind s xs t (Unsound why) all q ih e = never cc
  behind s xs t (Sound ys) all q ih e =
      let is : all ≡ xs ++ ys = cc in
      rw is (more s xs t ys q (ih ys refl))

  from : (turns : ℕ) (s : Place) (all : List A) → table_from step late turns s ≡ Sound all → P s all
  unfolding table_from
  from zero s all e = never cc
  from (suc turns) s all e = go (step s) refl (λ t ys q. from turns t ys q)
    where
      go : (r : Step A W) → step s ≡ r → ((t : Place) (ys : List A) → table_from step late turns t ≡ Sound ys → P t ys) → P s all
      go (Stop why) q ih = let z : Unsound why ≡ Sound all = rw q at e in never cc
      go End q ih =
          let z : Sound [] ≡ Sound all = rw q at e in
          let is : all ≡ [] = cc in
          rw is (none s q)
      go (Next xs t) q ih =
          let z : after xs (table_from step late turns t) ≡ Sound all = rw q at e in
          behind s xs t (table_from step late turns t) all q (λ ys h. ih t ys h) z

  pub sound_table : (limit : ℕ) (s : Place) (all : List A) → table_of step late limit s ≡ Sound all → P s all
  unfolding table_of
  sound_table limit s all e = from (suc limit) s all e

-- The elements of a sound table have their numbers where those of each step have them.
pub table_numbers : {A W : Type 0} (step : Place → Step A W) (late : W) (number : A → ℕ) → ((p : Place) (xs : List A) (t : Place) → step p ≡ Next xs t → Numbered number (suc p.used) xs × (t.used ≡ p.used + length xs)) → (limit : ℕ) (p : Place) (all : List A) → table_of step late limit p ≡ Sound all → Numbered number (suc p.used) all
table_numbers {A} step late number steps = sound_table step late (λ (p : Place) (all : List A). Numbered number (suc p.used) all) (λ p e. tt) more
  where
    more : (p : Place) (xs : List A) (t : Place) (ys : List A) → step p ≡ Next xs t → Numbered number (suc t.used) ys → Numbered number (suc p.used) (xs ++ ys)
    more p xs t ys e n =
        let s = steps p xs t e in
        let behind : suc t.used ≡ suc p.used + length xs = omega (arith, s.1) in
        numbered_append number (suc p.used) xs ys s.0 (rw behind at n)

-- What holds of the reason of each step that stops, and of `late`, holds of the reason for which a table is unsound.
module _ {A W : Type 0} (step : Place → Step A W) (late : W) (P : W → Type 0) (of-late : P late) (of_step : (p : Place) (why : W) → step p ≡ Stop why → P why) where
  abbrev In : Table A W → Type 0
  In (Sound xs) = Unit
  In (Unsound why) = P why

  after_in : (xs : List A) (t : Table A W) → In t → In (after xs t)
  after_in xs (Sound ys) h = tt
  after_in xs (Unsound why) h = h

  table_in : (turns : ℕ) (p : Place) → In (table_from step late turns p)
  unfolding table_from
  table_in zero p = of-late
  table_in (suc turns) p = go (step p) refl (λ t. table_in turns t)
    where
      go : (r : Step A W) → step p ≡ r → ((t : Place) → In (table_from step late turns t)) → In (on_step r Unsound (Sound []) (λ xs t. after xs (table_from step late turns t)))
      go (Stop why) e ih = of_step p why e
      go End e ih = tt
      go (Next xs t) e ih = after_in xs (table_from step late turns t) (ih t)

  pub unsound_table : (limit : ℕ) (p : Place) (why : W) → table_of step late limit p ≡ Unsound why → P why
  unfolding table_of
  unsound_table limit p why e = rw e at (table_in (suc limit) p)
