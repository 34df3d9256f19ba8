-- A list of checks in a fixed order. Demand 1: "one refusal number from our list, chosen by a fixed order", which document 01 gives.
use Rattle.std.specs.Prelude.{Bool, cond, List, [], ◌∷◌}

infix 25 ◌⇒◌
-- `fails ⇒ why`: where the test is true, the request is refused because of `why`.
pub data Check (W : Type 0) : Type 0 where
  ◌⇒◌ : Bool → W → Check W

-- The first check that fails decides; where none fails, the answer is `a`.
abbrev pub decide : {W A : Type 0} → (W → A) → List (Check W) → A → A
decide refuse [] a = a
decide refuse ((fails ⇒ why) ∷ rest) a = cond fails (refuse why) (decide refuse rest a)
