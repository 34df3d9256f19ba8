-- What a walk of a list that was done says of whoever goes on from it.
--     sound_list, unsound_list   by what the walk answered
--     nothing_behind             where nothing is found after it
-- Assumes nothing.
use Rattle.std.proofs.Common.{◌≡◌, refl, Bool, ℕ, Ok, Err, Option, Some, None}
use Rattle.std.specs.Option.{option_or}
use Rattle.checks.proofs.Impossible.{never}
use Rattle.refusal.specs.declared.Refusal.{Refusal}
use Rattle.tables.specs.Table.{Table, Sound, Unsound, on_table}
use Rattle.names.specs.declared.Name.{Name}
use Rattle.names.specs.declared.Progress.{Progress}
use Rattle.names.specs.Internal.{onwards, walk_of}

pub sound_list : {B : Type 0} (t : Table Name Refusal) (p q : Progress) (takes : ℕ → Name → Bool) (refuse : Refusal → B) (go : Progress → B) → walk_of t p takes ≡ Ok q → on_table t refuse (λ ns. go (onwards p takes ns)) ≡ go q
sound_list (Sound ns) p q takes refuse go e =
    let is : q ≡ onwards p takes ns = cc in
    rw is
sound_list (Unsound why) p q takes refuse go e = never cc

pub unsound_list : {B : Type 0} (t : Table Name Refusal) (p : Progress) (why : Refusal) (takes : ℕ → Name → Bool) (refuse : Refusal → B) (go : Progress → B) → walk_of t p takes ≡ Err why → on_table t refuse (λ ns. go (onwards p takes ns)) ≡ refuse why
unsound_list (Sound ns) p why takes refuse go e = never cc
unsound_list (Unsound other) p why takes refuse go e = let is : why ≡ other = cc in rw is

pub nothing_behind : (m : Option Name) → option_or m None ≡ m
nothing_behind (Some n) = refl
nothing_behind None = refl
