-- The laws of a walk that has found something, or nothing, so far: what it finds in all, by what stands at its place.
--     past, cut    the list goes over its limit
--     ended        length 0 ends it
--     one_name     a name, and the list after it
-- Assumes nothing.
use Rattle.std.specs.Prelude.{Result, Ok, Err, Option, Some, None}
use Rattle.std.specs.Bool.{then_some}
use Rattle.std.specs.Option.{option_or}
use mathlib.Core.Path.{◌≡◌, ◌∙◌, refl, ap}
use mathlib.Core.Bool.{Bool, true, false, cond}
use mathlib.Core.List.{List, [], ◌∷◌}
use Prim.Native.Nat.{ℕ, suc, ◌+◌, ◌≤◌, ◌<◌}
use native.Mathlib.Omega.{arith}
use lib.ListN.{length}
use Rattle.le.specs.Number.{byte_at}
use Rattle.refusal.specs.declared.Refusal.{Refusal}
use Rattle.tables.specs.Table.{Table, Sound, Unsound, after, on_table}
use Rattle.tables.specs.Query.{first_of}
use Rattle.names.specs.declared.Name.{Name}
use Rattle.names.specs.declared.Progress.{Progress}
use Rattle.names.specs.Names.{name_at, list_from}
use Rattle.names.specs.Internal.{chosen}
use Rattle.names.proofs.Listed as listed

-- What is found in all, where `used` names come before the list `t` and `m` was found there.
abbrev pub in_all : (Name → Bool) → ℕ → Option Name → Table Name Refusal → Result Progress Refusal
in_all takes used m t = on_table t Err λ ns. Ok (record { used = used + length ns; found = option_or m (first_of takes Some None ns) })

module _ (takes : Name → Bool) where
  later : (m : Option Name) (n : Name) (ns : List Name) → option_or m (first_of takes Some None (n ∷ ns)) ≡ option_or (chosen m (takes n) n) (first_of takes Some None ns)
  unfolding first_of
  later (Some f) n ns = refl
  later None n ns = go (takes n)
    where
      go : (t : Bool) → cond t (Some n) (first_of takes Some None ns) ≡ option_or (option_or None (then_some t n)) (first_of takes Some None ns)
      go true = refl
      go false = refl

  same_progress : {k l : ℕ} {f g : Option Name} → k ≡ l → f ≡ g → ◌≡◌ {A = Result Progress Refusal} (Ok (record { used = k; found = f })) (Ok (record { used = l; found = g }))
  same_progress p q = rw (p, q)

  in_more : (used : ℕ) (m : Option Name) (n : Name) (t : Table Name Refusal) → in_all takes used m (after (n ∷ []) t) ≡ in_all takes (used + 1) (chosen m (takes n) n) t
  in_more used m n (Sound ns) =
      let count : used + suc (length ns) ≡ used + 1 + length ns = omega arith in
      same_progress count (later m n ns)
  in_more used m n (Unsound why) = refl

  -- Nothing comes after what was found.
  in_end : (used : ℕ) (m : Option Name) → in_all takes used m (Sound []) ≡ Ok (record { used = used; found = m })
  unfolding first_of
  in_end used (Some f) = let all : used + 0 ≡ used = omega arith in rw all
  in_end used None = let all : used + 0 ≡ used = omega arith in rw all

  module _ (image : List ℕ) (limit : ℕ) (why : Refusal) (at used : ℕ) (m : Option Name) where
    pub past : limit ≤ at → in_all takes used m (list_from image limit why at used) ≡ Err why
    past h = ap (in_all takes used m) (listed.past image limit why at used h)

    pub ended : at < limit → byte_at image at ≡ 0 → in_all takes used m (list_from image limit why at used) ≡ Ok (record { used = used; found = m })
    ended h e = ap (in_all takes used m) (listed.ended image limit why at used h e) ∙ in_end used m

    pub cut : at < limit → (byte_at image at ≡ 0 → ⊥) → limit < at + 1 + byte_at image at + 2 → in_all takes used m (list_from image limit why at used) ≡ Err why
    cut h e k = ap (in_all takes used m) (listed.cut image limit why at used h e k)

    pub one_name : (byte_at image at ≡ 0 → ⊥) → at + 1 + byte_at image at + 2 ≤ limit → in_all takes used m (list_from image limit why at used) ≡ in_all takes (used + 1) (chosen m (takes (name_at image (record { at = at; used = used }))) (name_at image (record { at = at; used = used }))) (list_from image limit why (at + 1 + byte_at image at + 2) (used + 1))
    one_name e k = ap (in_all takes used m) (listed.one_name image limit why at used e k) ∙ in_more used m (name_at image (record { at = at; used = used })) (list_from image limit why (at + 1 + byte_at image at + 2) (used + 1))

-- What the walk's proof is made of.
pub ruleset steps = (past, ended, cut, one_name)
