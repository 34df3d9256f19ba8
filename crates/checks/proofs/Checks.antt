-- The laws of a list of checks.
--     passed     an answer that is no refusal says that every check passed
--     answered   and is then the one after the last check
--     decided    where every check passed, that is the answer
--     tried      what holds of each refusal whose check is the first that fails, and of the answer where every check passed,
--                holds of what the list decides
--     because    a refusal has one of the list's reasons, or is the answer behind it
-- Assumes nothing.
use mathlib.Core.Path.{◌≡◌, refl, sym, ◌∙◌}
use mathlib.Core.Bool.{Bool, true, false}
use mathlib.Core.List.{List, [], ◌∷◌}
use Rattle.checks.proofs.Impossible.{never}
use Rattle.checks.specs.Checks.{Check, ◌⇒◌, decide}
use Rattle.checks.specs.Internal.{Passed, Reasons, First}

pub decided : {W A : Type 0} (refuse : W → A) (checks : List (Check W)) (a : A) → Passed checks → decide refuse checks a ≡ a
decided refuse [] a p = refl
decided refuse ((fails ⇒ why) ∷ rest) a p = rw p.0 (decided refuse rest a p.1)

pub tried : {W A : Type 0} (refuse : W → A) (P : A → Type 0) (checks : List (Check W)) (a : A) → First (λ why. P (refuse why)) checks → (Passed checks → P a) → P (decide refuse checks a)
tried refuse P [] a f p = p tt
tried refuse P ((true ⇒ why) ∷ rest) a f p = f.0 refl
tried refuse P ((false ⇒ why) ∷ rest) a f p = tried refuse P rest a (f.1 refl) (λ k. p (refl, k))

pub because : {W A : Type 0} (refuse : W → A) → ((w w' : W) → refuse w ≡ refuse w' → w ≡ w') → (P : W → Type 0) (checks : List (Check W)) (a : A) → Reasons P checks → (why : W) → (a ≡ refuse why → P why) → decide refuse checks a ≡ refuse why → P why
because refuse same P [] a r why behind e = behind e
because refuse same P ((true ⇒ reason) ∷ rest) a r why behind e = rw (same reason why e) at r.0
because refuse same P ((false ⇒ reason) ∷ rest) a r why behind e = because refuse same P rest a r.1 why behind e

-- `is_refusal` tells refusals from answers.
module _ {W A : Type 0} (refuse : W → A) (is_refusal : A → Bool) (refused : (why : W) → is_refusal (refuse why) ≡ true) where
  pub passed : (checks : List (Check W)) (a : A) → is_refusal (decide refuse checks a) ≡ false → Passed checks
  passed [] a e = tt
  passed ((true ⇒ why) ∷ rest) a e = let z = sym (refused why) ∙ e in never cc
  passed ((false ⇒ why) ∷ rest) a e = (refl, passed rest a e)

  -- The answer is then the one after the last check.
  pub answered : (checks : List (Check W)) (a : A) → is_refusal (decide refuse checks a) ≡ false → decide refuse checks a ≡ a
  answered [] a e = refl
  answered ((true ⇒ why) ∷ rest) a e = let z = sym (refused why) ∙ e in never cc
  answered ((false ⇒ why) ∷ rest) a e = answered rest a e
