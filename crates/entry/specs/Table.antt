-- Document 01, "Entry table": the whole table as a list of bundles.
use Rattle.std.specs.Prelude.{ℕ, ◌+◌, ◌*◌, ◌-◌, Bool, true, false, cond, ◌&&◌, List, [], ◌∷◌, length, ltb, leb, Result, Ok, Err, Option, Some, None}
use Rattle.tables.specs.Table as tables
use Rattle.tables.specs.Table.{Place, Step, Next, End, Stop, Table, Sound, Unsound}
use Rattle.refusal.specs.declared.Refusal.{Refusal}
use Rattle.refusal.specs.declared.Refusal.TheVariants.{EntryTableEnds}
use Rattle.bundle.specs.declared.Kind.TheVariants.{Null}
use Rattle.bundle.specs.declared.Bundle.{Bundle}
use Rattle.entry.specs.declared.Slot.{Slot}
use Rattle.bundle.specs.Bundle.{width_of, step_of}

-- The place behind a bundle.
abbrev pub behind : Bundle → Place
behind b = record { at = b.end; used = b.used + b.count }

-- What stands at a place, as a step of the table.
abbrev pub as_step : Result (Option Bundle) Refusal → Step Bundle Refusal
as_step (Err why) = Stop why
as_step (Ok None) = End
as_step (Ok (Some b)) = Next (b ∷ []) (behind b)

abbrev pub bundle_step : List ℕ → ℕ → Place → Step Bundle Refusal
bundle_step table segments p = as_step (step_of table segments p.at p.used)

-- A table is sound, and then it is its bundles in their order, or it is refused.
abbrev pub EntryTable : Type 0
EntryTable = Table Bundle Refusal

-- Whether a table is sound.
abbrev pub is_sound : EntryTable → Bool
is_sound (Sound bs) = true
is_sound (Unsound why) = false

-- The table from a place on, where `used` ordinals come before it, in a module of this many segments.
abbrev pub table_at : List ℕ → ℕ → ℕ → ℕ → EntryTable
table_at table segments at used = tables.table_of (bundle_step table segments) EntryTableEnds (length table) (record { at = at; used = used })

-- A whole table. It starts at its first byte, with no ordinal before it.
unfoldable pub table_of : List ℕ → ℕ → EntryTable
table_of table segments = table_at table segments 0 0

-- "Ordinals count from 1."
abbrev pub covers : Bundle → ℕ → Bool
covers b number = ltb b.used number && leb number (b.used + b.count)

-- The slot of an ordinal in a bundle that covers it: the entries stand one behind the other.
abbrev pub slot_of : Bundle → ℕ → Slot
slot_of b number = record { kind = b.kind; at = b.at + width_of b.kind * (number - 1 - b.used) }

-- The slot of an ordinal that no bundle covers.
abbrev pub no_slot : Slot
no_slot = record { kind = Null; at = 0 }

-- The slot of an ordinal: in the bundle that covers it.
unfoldable pub slot_in : List Bundle → ℕ → Slot
slot_in [] number = no_slot
slot_in (b ∷ bs) number = cond (covers b number) (slot_of b number) (slot_in bs number)

-- How many ordinals there are, null ones too.
unfoldable pub ordinals_in : List Bundle → ℕ
ordinals_in [] = 0
ordinals_in (b ∷ bs) = b.count + ordinals_in bs
