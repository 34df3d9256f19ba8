-- The laws of the entries of a bundle that passed its checks.
--     entry_sound     each of them is sound
--     entry_segment   a sound entry's segment is in the segment table
-- Assumes nothing.
use Rattle.std.specs.Prelude.{Ok}
use mathlib.Core.Path.{◌≡◌, refl}
use mathlib.Core.Bool.{Bool, true, false, not, ◌||◌}
use mathlib.Core.List.{List}
use Prim.Native.Nat.{ℕ, zero, suc, ◌+◌, ◌*◌, ◌<◌}
use native.Mathlib.Nat.{mul-suc}
use native.Mathlib.Omega.{arith}
use lib.Dec.{eqb}
use lib.ListN.{drop}
use Rattle.le.specs.Number.{byte_at, word_at}
use Rattle.checks.proofs.Impossible.{never}
use Rattle.header.specs.Header.{lacks}
use Rattle.bundle.specs.declared.Kind.{Kind}
use Rattle.bundle.specs.declared.Kind.TheVariants.{Null, Movable, Fixed}
use Rattle.bundle.specs.declared.Entry.{Entry}
use Rattle.bundle.specs.Bundle.{width_of, entry_of, entry_unsound, unsound_from}

-- An entry of a bundle without unsound entries.
pub entry_sound : (count index segments : ℕ) (table : List ℕ) (kind : Kind) (at : ℕ) → unsound_from count table segments kind at ≡ false → index < count → entry_unsound segments kind (drop (at + width_of kind * index) table) ≡ false
unfolding unsound_from
entry_sound zero index segments table kind at e h = absurd (omega arith)
entry_sound (suc count) index segments table kind at e h = go (entry_unsound segments kind (drop at table)) refl e index h (λ i q k. entry_sound count i segments table kind (at + width_of kind) q k)
  where
    go : (t : Bool) → entry_unsound segments kind (drop at table) ≡ t → (t || unsound_from count table segments kind (at + width_of kind)) ≡ false → (i : ℕ) → i < suc count → ((j : ℕ) → unsound_from count table segments kind (at + width_of kind) ≡ false → j < count → entry_unsound segments kind (drop (at + width_of kind + width_of kind * j) table) ≡ false) → entry_unsound segments kind (drop (at + width_of kind * i) table) ≡ false
    go true p q i k rest = never cc
    go false p q zero k rest = let here : at + width_of kind * 0 ≡ at = omega arith in rw here p
    go false p q (suc i) k rest =
        let on : at + width_of kind * suc i ≡ at + width_of kind + width_of kind * i = rw mul-suc (omega arith) in
        rw on (rest i q (omega arith))

-- The segment of an entry that isn't unsound is in the table.
pub entry_segment : (segments : ℕ) (kind : Kind) (bytes : List ℕ) (e : Entry) → entry_unsound segments kind bytes ≡ false → entry_of kind bytes ≡ Ok e → lacks segments e.segment ≡ false
entry_segment segments Null bytes e sound is = never cc
entry_segment segments Movable bytes e sound is = go (not (eqb (word_at bytes 1) 0x3fcd)) sound
  where
    go : (t : Bool) → (t || lacks segments (byte_at bytes 3)) ≡ false → lacks segments e.segment ≡ false
    go true q = never cc
    go false q =
        let its : e ≡ record { segment = byte_at bytes 3; offset = word_at bytes 4; flag = byte_at bytes 0 } = cc in
        rw its q
entry_segment segments (Fixed segment) bytes e sound is =
    let its : e ≡ record { segment = segment; offset = word_at bytes 1; flag = byte_at bytes 0 } = cc in
    rw its sound
