-- The step site by site.
--     past   a span past the buffer ends it
--     ends   a last site is written, and ends it
--     goes   another one is written, and the step goes on
-- Assumes nothing.
use Rattle.std.proofs.Common.{◌≡◌, refl, true, false, List, ℕ, zero, suc, ◌+◌, ◌<◌, ◌≤◌, ◌⊎◌, inl, inr, length, arith}
use borrow.Author.Tests.{lt-ltb, le-ltb, eq-eqb, ne_eqb}
use lib.Seq.{sets}
use Rattle.le.specs.Number.{byte_at, word_at}
use Rattle.site.specs.Site.{width_of, written_over}
use Rattle.site.specs.Walk.{is_last}
use Rattle.site.specs.Step.{step_from}
use Rattle.site.specs.declared.Fixup.{Fixup}
use Rattle.patch.proofs.Written.{put_is}

is_last_word : (f : Fixup) (word : ℕ) → (f.additive ≡ true) ⊎ ((f.additive ≡ false) × (word ≡ 0xffff)) → is_last f word ≡ true
is_last_word f word (inl additive) = rw additive
is_last_word f word (inr (chained, end)) = rw (chained, eq-eqb word 0xffff end)

module _ (f : Fixup) (at width : ℕ) (buffer : List ℕ) (wide : width ≡ width_of f.kind f.additive) where
  pub past : (left : ℕ) → length buffer < at + width → buffer ≡ step_from left f at buffer
  unfolding step_from
  past zero h = refl
  past (suc left) h = rw (lt-ltb (length buffer) (at + width_of f.kind f.additive) (rw wide at h))

  module _ (byte word : ℕ) (after : List ℕ) (b : byte ≡ byte_at buffer at) (w : word ≡ word_at buffer at) (wrote : after ≡ sets buffer at (written_over f.kind f byte word)) (inside : at + width ≤ length buffer) where
    pub ends : (left : ℕ) → 0 < left → (f.additive ≡ true) ⊎ ((f.additive ≡ false) × (word ≡ 0xffff)) → after ≡ step_from left f at buffer
    unfolding step_from
    ends zero some last = absurd (omega arith)
    ends (suc left) some last =
        let is : is_last f (word_at buffer at) ≡ true = rw w at (is_last_word f word last) in
        rw (le-ltb (length buffer) (at + width_of f.kind f.additive) (rw wide at inside), is) (put_is buffer f at buffer after byte word b w wrote)

    pub goes : (left rest : ℕ) → left ≡ suc rest → f.additive ≡ false → (word ≡ 0xffff → ⊥) → step_from rest f word after ≡ step_from left f at buffer
    unfolding step_from
    goes left rest e chained more =
        let on : is_last f word ≡ false = rw (chained, ne_eqb word 0xffff more) in
        let is : is_last f (word_at buffer at) ≡ false = rw w at on in
        rw (e, le-ltb (length buffer) (at + width_of f.kind f.additive) (rw wide at inside), is) (rw (put_is buffer f at buffer after byte word b w wrote, w) refl)
