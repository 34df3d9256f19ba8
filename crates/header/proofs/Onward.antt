-- Whoever goes on from a header can do so in another way that answers the same.
-- Assumes nothing.
use Rattle.std.proofs.Common.{◌≡◌, refl, Result, Ok, Err}
use Rattle.refusal.specs.declared.Refusal.{Refusal}
use Rattle.checks.specs.Onward.{on_result}
use Rattle.header.specs.declared.Header.{Header}

pub onward : {A : Type 0} (a : Result Header Refusal) (refuse : Refusal → A) (go other : Header → A) → ((h : Header) → go h ≡ other h) → on_result a refuse go ≡ on_result a refuse other
onward (Ok h) refuse go other e = e h
onward (Err why) refuse go other e = refl
