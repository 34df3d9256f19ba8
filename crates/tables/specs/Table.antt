-- A table of a file is read from a place on, step by step, until its end stands there. Then it is a list.
use Rattle.std.specs.Prelude.{ℕ, zero, suc, List, [], ◌++◌}

-- A place in a table: where it is, and how many numbers are used up before it. Elements are numbered from 1.
pub record Place : Type 0 where
  pub at : ℕ
  pub used : ℕ

-- What stands at a place: elements with the place behind them, the table's end, or why the table is unsound here.
pub data Step (A W : Type 0) : Type 0 where
  Next : List A → Place → Step A W
  End : Step A W
  Stop : W → Step A W

-- A table is sound, and then it is its elements in their order, or it is refused.
pub data Table (A W : Type 0) : Type 0 where
  Sound : List A → Table A W
  Unsound : W → Table A W

abbrev pub after : {A W : Type 0} → List A → Table A W → Table A W
after xs (Sound ys) = Sound (xs ++ ys)
after xs (Unsound why) = Unsound why

-- For whoever goes on from a step, and from a table.
abbrev pub on_step : {A W B : Type 0} → Step A W → (W → B) → B → (List A → Place → B) → B
on_step (Stop why) refuse end go = refuse why
on_step End refuse end go = end
on_step (Next xs p) refuse end go = go xs p

abbrev pub on_table : {A W B : Type 0} → Table A W → (W → B) → (List A → B) → B
on_table (Sound xs) refuse go = go xs
on_table (Unsound why) refuse go = refuse why

-- The table from a place on, in as many turns at most; where they are not enough it is unsound because of `late`.
unfoldable pub table_from : {A W : Type 0} → (Place → Step A W) → W → ℕ → Place → Table A W
table_from step late zero p = Unsound late
table_from step late (suc turns) p = on_step (step p) Unsound (Sound []) λ xs t. after xs (table_from step late turns t)

-- The table from a place on, where no place lies past `limit`. Each step goes on by a byte at least, so as many turns as
-- there are bytes, and one for the end, are enough.
unfoldable pub table_of : {A W : Type 0} → (Place → Step A W) → W → ℕ → Place → Table A W
table_of step late limit p = table_from step late (suc limit) p
