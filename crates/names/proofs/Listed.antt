-- The laws of a list of names from a place on.
--     went         a step that goes on has passed the checks
--     past, cut    the list goes over its limit
--     ended        length 0 ends it
--     one_name     a name, and the list behind it
-- Assumes nothing.
use mathlib.Core.Path.{◌≡◌, ◌∙◌}
use mathlib.Core.List.{List, [], ◌∷◌}
use Prim.Native.Nat.{ℕ, ◌+◌, ◌≤◌, ◌<◌}
use native.Mathlib.Omega.{arith}
use borrow.Author.Tests.{lt-ltb, le-ltb, eq-eqb, ne_eqb, ltb-false, eqb-false}
use Rattle.le.specs.Number.{byte_at}
use Rattle.refusal.specs.declared.Refusal.{Refusal}
use Rattle.tables.specs.Table.{Place, Step, Next, End, Stop, Sound, Unsound, after, on_step, table_of}
use Rattle.tables.proofs.Turns.{unrolled}
use Rattle.names.specs.declared.Name.{Name}
use Rattle.names.specs.Names.{name_at, behind, step_of, list_from}

-- What a step that goes on says: the name that stands there, and the place behind it.
pub record Went (image : List ℕ) (limit : ℕ) (p : Place) (xs : List Name) (t : Place) : Type 0 where
  pub name : xs ≡ name_at image p ∷ []
  pub place : t ≡ behind (name_at image p)
  pub some : 0 < byte_at image p.at
  pub fits : p.at + 1 + byte_at image p.at + 2 ≤ limit

module _ (image : List ℕ) (limit : ℕ) (why : Refusal) where
  pub went : (p : Place) (xs : List Name) (t : Place) → step_of image limit why p ≡ Next xs t → Went image limit p xs t
  unfolding step_of
  went p xs t e = record { name = grind (arith, ltb-false, eqb-false); place = grind (arith, ltb-false, eqb-false); some = grind (arith, ltb-false, eqb-false); fits = grind (arith, ltb-false, eqb-false) }

  -- At the end of a list its length byte is there.
  pub end_inside : (p : Place) → step_of image limit why p ≡ End → p.at + 1 ≤ limit
  unfolding step_of
  end_inside p e = grind (arith, ltb-false)

  on : (p : Place) (xs : List Name) (t : Place) → step_of image limit why p ≡ Next xs t → (p.at < t.at) × (t.at ≤ limit)
  on p xs t e =
      let w = went p xs t e in
      let ahead : p.at < p.at + 1 + byte_at image p.at + 2 = omega arith in
      (rw w.place ahead, rw w.place w.fits)

  from_step : (at used : ℕ) (s : Step Name Refusal) → step_of image limit why (record { at = at; used = used }) ≡ s → list_from image limit why at used ≡ on_step s Unsound (Sound []) (λ xs t. after xs (table_of (step_of image limit why) why limit t))
  from_step at used s e = unrolled (step_of image limit why) why limit on (record { at = at; used = used }) ∙ rw e

  pub past : (at used : ℕ) → limit ≤ at → list_from image limit why at used ≡ Unsound why
  unfolding step_of
  past at used h = let short : limit < at + 1 = omega arith in from_step at used (Stop why) (rw (lt-ltb _ _ short))

  pub ended : (at used : ℕ) → at < limit → byte_at image at ≡ 0 → list_from image limit why at used ≡ Sound []
  unfolding step_of
  ended at used h e = let there : at + 1 ≤ limit = omega arith in from_step at used End (rw (le-ltb _ _ there, eq-eqb _ _ e))

  pub cut : (at used : ℕ) → at < limit → (byte_at image at ≡ 0 → ⊥) → limit < at + 1 + byte_at image at + 2 → list_from image limit why at used ≡ Unsound why
  unfolding step_of
  cut at used h e k = let there : at + 1 ≤ limit = omega arith in from_step at used (Stop why) (rw (le-ltb _ _ there, ne_eqb _ _ e, lt-ltb _ _ k))

  pub one_name : (at used : ℕ) → (byte_at image at ≡ 0 → ⊥) → at + 1 + byte_at image at + 2 ≤ limit → list_from image limit why at used ≡ after (name_at image (record { at = at; used = used }) ∷ []) (list_from image limit why (at + 1 + byte_at image at + 2) (used + 1))
  unfolding step_of
  one_name at used e k =
      let p : Place = record { at = at; used = used } in
      let there : at + 1 ≤ limit = omega arith in
      from_step at used (Next (name_at image p ∷ []) (behind (name_at image p))) (rw (le-ltb _ _ there, ne_eqb _ _ e, le-ltb _ _ k))
