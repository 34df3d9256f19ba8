-- For whoever goes on from an answer, which is a value or the reason of a refusal.
use Rattle.std.specs.Prelude.{Result, Ok, Err}

-- What follows of the value, or what becomes of the refusal.
abbrev pub on_result : {A B W : Type 0} → Result A W → (W → B) → (A → B) → B
on_result (Ok a) refuse go = go a
on_result (Err why) refuse go = refuse why

infixl 10 ◌>>=◌
-- What follows of the value; a refusal stays what it is.
abbrev pub ◌>>=◌ : {A B W : Type 0} → Result A W → (A → Result B W) → Result B W
a >>= go = on_result a Err go
