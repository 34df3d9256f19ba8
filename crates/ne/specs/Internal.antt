-- What serves proofs alone: that an answer fits the fields of a C result.
use Rattle.std.specs.Prelude.{◌^◌, ◌<◌, Result, Ok, Err}
use Rattle.names.specs.declared.Name.{Name}
use Rattle.refusal.specs.declared.Refusal.{Refusal}

-- That the numbers of a name's answer fit the fields, as those of every answer to a query do.
abbrev pub NameFits : Result Name Refusal → Type 0
NameFits (Ok n) = (n.number < 2 ^ 32) × (n.at < 2 ^ 32)
NameFits (Err why) = Unit
