-- What serves proofs alone: what a walk of the table finds, and an index of it, places from which ordinals can be looked for, so
-- that none is far.
use Rattle.std.specs.Prelude.{◌≡◌, cond, List, [], ◌∷◌, ℕ, ◌+◌, ◌*◌, ◌≤◌, ◌<◌, get_or, Result, Ok, Err}
use Rattle.tables.specs.Table.{Sound, Unsound}
use Rattle.bundle.specs.declared.Bundle.{Bundle}
use Rattle.entry.specs.declared.Found.{Found}
use Rattle.entry.specs.declared.Slot.{Slot}
use Rattle.entry.specs.declared.index.Place.{Place}
use Rattle.refusal.specs.declared.Refusal.{Refusal}
use Rattle.entry.specs.Table.{EntryTable, table_at, table_of, slot_in, ordinals_in, covers, slot_of}

-- The slot in the last bundle that covers an ordinal, as a walk finds it, or else the slot `other`.
unfoldable pub last_in : Slot → List Bundle → ℕ → Slot
last_in other [] number = other
last_in other (b ∷ bs) number = last_in (cond (covers b number) (slot_of b number) other) bs number

-- What a walk of the table finds.
abbrev pub walk_of : EntryTable → ℕ → Result Found Refusal
walk_of (Sound bs) number = Ok (record { ordinals = ordinals_in bs; slot = slot_in bs number })
walk_of (Unsound why) number = Err why

-- What is found in all, where `used` ordinals and a slot were found before the table `t`.
unfoldable pub found_of : ℕ → Slot → ℕ → EntryTable → Result Found Refusal
found_of used slot number (Sound bs) = Ok (record { ordinals = used + ordinals_in bs; slot = last_in slot bs number })
found_of used slot number (Unsound why) = Err why

-- The table's start, with no ordinal before it.
abbrev pub first_place : Place
first_place = record { at = 0; used = 0 }

-- A place of a sound table, with these bundles: from there on stand the bundles that cover the ordinals behind the first `used`.
pub record Mark (table : List ℕ) (segments : ℕ) (all : List Bundle) (at used : ℕ) : Type 0 where
  pub bundles : List Bundle
  pub sound : table_at table segments at used ≡ Sound bundles
  pub same : (number : ℕ) → used < number → slot_in bundles number ≡ slot_in all number

-- The element k is a place with at most 4 k ordinals before it. An element that is lacking counts as the table's start.
pub record Indexes (table : List ℕ) (index : List Place) : Type 0 where
  pub low : (k : ℕ) → (get_or index k first_place).used ≤ 4 * k
  pub marks : (k segments : ℕ) (all : List Bundle) → table_of table segments ≡ Sound all → Mark table segments all (get_or index k first_place).at (get_or index k first_place).used
