-- Document 01, "Entry table": one bundle, its entries and its checks.
use Rattle.std.specs.Prelude.{ℕ, zero, suc, ◌+◌, ◌*◌, Bool, false, cond, not, ◌||◌, List, [], ◌∷◌, length, drop, ltb, eqb, Result, Ok, Err, Option, Some, None}
use Rattle.le.specs.Number.{byte_at, word_at}
use Rattle.refusal.specs.declared.Refusal.{Refusal}
use Rattle.refusal.specs.declared.Refusal.TheVariants.{EntryTableEnds, EntryUnsound, OrdinalsOver, NoSuchOrdinal}
use Rattle.checks.specs.Checks.{Check, ◌⇒◌, decide}
use Rattle.header.specs.Header.{lacks}
use Rattle.bundle.specs.declared.Kind.{Kind}
use Rattle.bundle.specs.declared.Kind.TheVariants.{Null, Movable, Fixed}
use Rattle.bundle.specs.declared.Bundle.{Bundle}
use Rattle.bundle.specs.declared.Entry.{Entry}

-- "Segment byte 0 is null [...]. 255 is movable [...]. Any other byte is a fixed segment number".
unfoldable pub kind_of : ℕ → Kind
kind_of segment = cond (eqb segment 0) Null (cond (eqb segment 255) Movable (Fixed segment))

-- "ordinals are used up, no bytes follow", "6 bytes each", "3 bytes each".
abbrev pub width_of : Kind → ℕ
width_of Null = 0
width_of Movable = 6
width_of (Fixed segment) = 3

-- "(flag, CDh 3Fh, segment, offset word)" and "(flag, offset word)": what the entry says that starts at the first byte of
-- `e`. "15: ordinal not covered, or null".
abbrev pub entry_of : Kind → List ℕ → Result Entry Refusal
entry_of Null e = Err NoSuchOrdinal
entry_of Movable e = Ok (record { segment = byte_at e 3; offset = word_at e 4; flag = byte_at e 0 })
entry_of (Fixed segment) e = Ok (record { segment = segment; offset = word_at e 1; flag = byte_at e 0 })

-- "13: entry's segment not in the table, or no CDh 3Fh". CDh 3Fh is read as a word.
abbrev pub entry_unsound : ℕ → Kind → List ℕ → Bool
entry_unsound segments Null e = false
entry_unsound segments Movable e = not (eqb (word_at e 1) 0x3fcd) || lacks segments (byte_at e 3)
entry_unsound segments (Fixed segment) e = lacks segments segment

-- "13 by entry": whether one of `count` entries from the place `at` of the table on is unsound.
unfoldable pub unsound_from : ℕ → List ℕ → ℕ → Kind → ℕ → Bool
unsound_from zero table segments kind at = false
unsound_from (suc count) table segments kind at = entry_unsound segments kind (drop at table) || unsound_from count table segments kind (at + width_of kind)

-- The bundle at a place of the table, where `used` ordinals come before it.
unfoldable pub bundle_at : List ℕ → ℕ → ℕ → Bundle
bundle_at table at used =
    let count = byte_at table at in
    let kind = kind_of (byte_at table (at + 1)) in
    record { used = used; count = count; kind = kind; at = at + 2; end = at + 2 + width_of kind * count }

-- "per bundle: 12 for a missing count or segment byte, 14, 12 for missing entry bytes, then 13 by entry". These are the
-- checks of a bundle whose count byte is there.
unfoldable pub bundle_checks : List ℕ → ℕ → Bundle → List (Check Refusal)
bundle_checks table segments b =
    (ltb (length table) b.at ⇒ EntryTableEnds)
    ∷ (ltb 65535 (b.used + b.count) ⇒ OrdinalsOver)
    ∷ (ltb (length table) b.end ⇒ EntryTableEnds)
    ∷ (unsound_from b.count table segments b.kind b.at ⇒ EntryUnsound)
    ∷ []

-- What stands at a place of the table: nothing any more (12), the end byte ("a count of 0 ends it"), or a bundle. "A table
-- of size 0 is empty": it needs no end byte.
unfoldable pub step_of : List ℕ → ℕ → ℕ → ℕ → Result (Option Bundle) Refusal
step_of table segments at used =
    let b = bundle_at table at used in
    cond (eqb (length table) 0) (Ok None)
    (decide Err ((ltb (length table) (at + 1) ⇒ EntryTableEnds) ∷ [])
    (cond (eqb (byte_at table at) 0) (Ok None)
    (decide Err (bundle_checks table segments b) (Ok (Some b)))))
