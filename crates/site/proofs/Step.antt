-- The laws of the step.
--     own_sites     on any buffer it changes no byte but those that are written at its own record's sites
--     length_step   and keeps the buffer's length
--     chain_step    on a buffer that has the stored bytes in the record's own spans, its sites are those of the stored chain,
--                   and each is written as the stored bytes say
--     single_step   the same for an additive record
-- Assumes nothing.
use Rattle.std.specs.Prelude.{Result, Ok, Err, Option, Some, None}
use mathlib.Core.Path.{◌≡◌, refl, ap, ap₂, ◌∙◌}
use mathlib.Core.Bool.{Bool, true, false, cond}
use mathlib.Core.List.{List, [], ◌∷◌, map}
use Prim.Native.Nat.{ℕ, zero, suc, ◌+◌, ◌≤◌, ◌<◌}
use native.Mathlib.Omega.{arith}
use borrow.Author.Tests.{le-ltb, eq-eqb, ne_eqb}
use lib.Dec.{ltb}
use lib.ListN.{length}
use lib.Seq.{length-sets}
use Rattle.le.specs.Number.{number, byte_at, word_at}
use Rattle.lists.specs.Lists.{All, Pairs, in_turn}
use Rattle.lists.proofs.All.{all_map, all_both}
use Rattle.site.specs.Site.{Site, site_of, width_of, end_of, InSpan, Inside, Apart, written_over, written, put}
use Rattle.site.specs.Walk.{is_last}
use Rattle.site.specs.Exact.{IsWritten}
use Rattle.site.specs.Step.{step_from, step_of, visited_from, visited}
use Rattle.site.specs.Sound.{Chain, last, next}
use Rattle.site.specs.declared.Kind.{Kind}
use Rattle.site.specs.declared.Kind.TheVariants.{LowByte, Selector, Far, Offset}
use Rattle.site.specs.declared.Fixup.{Fixup}
use Rattle.refusal.specs.declared.Refusal.{Refusal}
use Rattle.site.proofs.Runs.{sets_out}
use Rattle.site.proofs.Spans.{wide, wide_chained, written_in_span}

-- A byte outside the span of a site is as it was.
pub put_out : (bytes buffer : List ℕ) (s : Site) (p : ℕ) → (InSpan p s → ⊥) → byte_at (put bytes s buffer) p ≡ byte_at buffer p
put_out bytes buffer s p h = sets_out buffer s.at (written bytes s) p (λ low high. h (written_in_span bytes s p (low, high)))

-- How many bytes are written at a site doesn't change with what stands there.
over_length : (kind : Kind) (f : Fixup) (byte word byte' word' : ℕ) → length (written_over kind f byte word) ≡ length (written_over kind f byte' word')
over_length LowByte f byte word byte' word' = refl
over_length Selector f byte word byte' word' = refl
over_length Far f byte word byte' word' = refl
over_length Offset f byte word byte' word' = refl

is_written : (bytes other : List ℕ) (p : ℕ) (s : Site) → IsWritten bytes p s → IsWritten other p s
unfolding written
is_written bytes other p s h = rw (over_length s.fixup.kind s.fixup (byte_at other s.at) (word_at other s.at) (byte_at bytes s.at) (word_at bytes s.at)) h

own_from : (left : ℕ) (f : Fixup) (at : ℕ) (b : List ℕ) (p : ℕ) → All (λ s. IsWritten b p s → ⊥) (visited_from left f at b) → byte_at (step_from left f at b) p ≡ byte_at b p
unfolding step_from visited_from
own_from zero f at b p h = refl
own_from (suc left) f at b p h = go (ltb (length b) (end_of (site_of f at))) (is_last f (word_at b at)) (λ k. own_from left f (word_at b at) (put b (site_of f at) b) p k) h
  where
    after : List ℕ
    after = put b (site_of f at) b

    put_kept : (IsWritten b p (site_of f at) → ⊥) → byte_at after p ≡ byte_at b p
    put_kept k = sets_out b at (written b (site_of f at)) p (λ low high. k (low, high))

    go : (past done : Bool) → (All (λ s. IsWritten after p s → ⊥) (visited_from left f (word_at b at) after) → byte_at (step_from left f (word_at b at) after) p ≡ byte_at after p) → All (λ s. IsWritten b p s → ⊥) (cond past [] (site_of f at ∷ cond done [] (visited_from left f (word_at b at) after))) → byte_at (cond past b (cond done after (step_from left f (word_at b at) after))) p ≡ byte_at b p
    go true done ih k = refl
    go false true ih k = put_kept k.0
    go false false ih k = ih (all_map (λ s. IsWritten b p s → ⊥) (λ s. IsWritten after p s → ⊥) (λ s n i. n (is_written after b p s i)) (visited_from left f (word_at b at) after) k.1) ∙ put_kept k.0

pub own_sites : (a : Result (Option Fixup) Refusal) (b : List ℕ) (p : ℕ) → All (λ s. IsWritten b p s → ⊥) (visited a b) → byte_at (step_of a b) p ≡ byte_at b p
own_sites (Ok None) b p h = refl
own_sites (Err why) b p h = refl
own_sites (Ok (Some f)) b p h = own_from (length b) f f.site b p h

length_from : (left : ℕ) (f : Fixup) (at : ℕ) (b : List ℕ) → length (step_from left f at b) ≡ length b
unfolding step_from
length_from zero f at b = refl
length_from (suc left) f at b = go (ltb (length b) (end_of (site_of f at))) (is_last f (word_at b at)) (length_from left f (word_at b at) (put b (site_of f at) b))
  where
    after : List ℕ
    after = put b (site_of f at) b

    same : length after ≡ length b
    same = length-sets b at (written b (site_of f at))

    go : (past done : Bool) → length (step_from left f (word_at b at) after) ≡ length after → length (cond past b (cond done after (step_from left f (word_at b at) after))) ≡ length b
    go true done ih = refl
    go false true ih = same
    go false false ih = ih ∙ same

pub length_step : (a : Result (Option Fixup) Refusal) (b : List ℕ) → length (step_of a b) ≡ length b
length_step (Ok None) b = refl
length_step (Err why) b = refl
length_step (Ok (Some f)) b = length_from (length b) f f.site b

-- That a buffer has the stored bytes in the span of a site.
abbrev pub Same : List ℕ → List ℕ → Site → Type 0
Same stored b s = (p : ℕ) → InSpan p s → byte_at b p ≡ byte_at stored p

word_same : (b stored : List ℕ) (at : ℕ) → byte_at b at ≡ byte_at stored at → byte_at b (suc at) ≡ byte_at stored (suc at) → word_at b at ≡ word_at stored at
unfolding number
word_same b stored at e k = rw (e, k)

-- What is written doesn't change with bytes outside the span: it looks at the word there only where the span has two bytes.
over_two : (kind : Kind) (f : Fixup) (b stored : List ℕ) (at : ℕ) → byte_at b at ≡ byte_at stored at → byte_at b (suc at) ≡ byte_at stored (suc at) → written_over kind f (byte_at b at) (word_at b at) ≡ written_over kind f (byte_at stored at) (word_at stored at)
over_two kind f b stored at e k = ap₂ (λ byte word. written_over kind f byte word) e (word_same b stored at e k)

over_same : (kind : Kind) (additive : Bool) (f : Fixup) (b stored : List ℕ) (at : ℕ) → ((p : ℕ) → at ≤ p → p < at + width_of kind additive → byte_at b p ≡ byte_at stored p) → written_over kind f (byte_at b at) (word_at b at) ≡ written_over kind f (byte_at stored at) (word_at stored at)
over_same LowByte additive f b stored at h = rw (h at (omega arith) (omega (arith, wide LowByte additive)))
over_same Selector additive f b stored at h = over_two Selector f b stored at (h at (omega arith) (omega arith)) (h (suc at) (omega arith) (omega arith))
over_same Far additive f b stored at h = over_two Far f b stored at (h at (omega arith) (omega arith)) (h (suc at) (omega arith) (omega arith))
over_same Offset additive f b stored at h = over_two Offset f b stored at (h at (omega arith) (omega arith)) (h (suc at) (omega arith) (omega arith))

written_same : (stored b : List ℕ) (s : Site) → Same stored b s → written b s ≡ written stored s
unfolding written
written_same stored b s h = over_same s.fixup.kind s.fixup.additive s.fixup b stored s.at (λ p low high. h p (low, high))

put_same : (stored b : List ℕ) (s : Site) → Same stored b s → put b s b ≡ put stored s b
put_same stored b s h = rw (written_same stored b s h)

next_same : (stored b : List ℕ) (f : Fixup) (at : ℕ) → f.additive ≡ false → Same stored b (site_of f at) → word_at b at ≡ word_at stored at
next_same stored b f at chained h =
    let two : 2 ≤ width_of f.kind f.additive = rw chained (wide_chained f.kind) in
    word_same b stored at (h at (omega arith, omega arith)) (h (suc at) (omega arith, omega arith))

-- A step whose span lies in the buffer, at the last site and at another one.
module _ (left : ℕ) (f : Fixup) (at : ℕ) (b : List ℕ) (room : end_of (site_of f at) ≤ length b) where
  at_last : is_last f (word_at b at) ≡ true → (step_from (suc left) f at b ≡ put b (site_of f at) b) × (visited_from (suc left) f at b ≡ site_of f at ∷ [])
  unfolding step_from visited_from
  at_last done = (rw (le-ltb _ _ room, done), rw (le-ltb _ _ room, done))

  at_other : is_last f (word_at b at) ≡ false → (step_from (suc left) f at b ≡ step_from left f (word_at b at) (put b (site_of f at) b)) × (visited_from (suc left) f at b ≡ site_of f at ∷ visited_from left f (word_at b at) (put b (site_of f at) b))
  unfolding step_from visited_from
  at_other on = (rw (le-ltb _ _ room, on), rw (le-ltb _ _ room, on))

-- What a step does on a buffer where the sites are these, written as the stored bytes say.
abbrev pub Does : List ℕ → ℕ → Fixup → ℕ → List ℕ → List Site → Type 0
Does stored left f at b sites = (step_from left f at b ≡ in_turn (put stored) sites b) × (visited_from left f at b ≡ sites)

pub single_step : (stored : List ℕ) (left : ℕ) (f : Fixup) (at : ℕ) (b : List ℕ) → f.additive ≡ true → 1 ≤ left → length stored ≤ length b → Inside stored (site_of f at) → Same stored b (site_of f at) → Does stored left f at b (site_of f at ∷ [])
single_step stored zero f at b additive h fits inside same = absurd (omega arith)
single_step stored (suc left) f at b additive h fits inside same =
    let one = at_last left f at b (omega (arith, inside)) (rw additive) in
    (one.0 ∙ put_same stored b (site_of f at) same, one.1)

module _ (stored : List ℕ) (f : Fixup) (chained : f.additive ≡ false) where
  -- What is left in the other spans behind a site.
  still : (s : Site) (sites : List Site) (b : List ℕ) → All (Apart s) sites → All (Same stored b) sites → All (Same stored (put stored s b)) sites
  still s sites b apart same = all_map (λ t. Apart s t × Same stored b t) (Same stored (put stored s b)) (λ t h p k. put_out stored b s p (λ j. h.0 p j k) ∙ h.1 p k) sites (all_both (Apart s) (Same stored b) sites apart same)

  pub chain_step : (left : ℕ) {at : ℕ} {places : List ℕ} → Chain stored at places → (b : List ℕ) → length places ≤ left → length stored ≤ length b → All (Inside stored) (map (site_of f) places) → Pairs Apart (map (site_of f) places) → All (Same stored b) (map (site_of f) places) → Does stored left f at b (map (site_of f) places)
  chain_step zero (last at e) b h fits inside apart same = absurd (omega arith)
  chain_step zero (next at e c) b h fits inside apart same = absurd (omega arith)
  chain_step (suc left) (last at e) b h fits inside apart same =
      let done : is_last f (word_at b at) ≡ true = rw (next_same stored b f at chained same.0, chained, eq-eqb _ _ e) in
      let one = at_last left f at b (omega (arith, inside.0)) done in
      (one.0 ∙ put_same stored b (site_of f at) same.0, one.1)
  chain_step (suc left) (next at {places} e c) b h fits inside apart same =
      let word = next_same stored b f at chained same.0 in
      let on : is_last f (word_at b at) ≡ false = rw (word, chained, ne_eqb _ _ e) in
      let one = at_other left f at b (omega (arith, inside.0)) on in
      let put_is = put_same stored b (site_of f at) same.0 in
      let long : length stored ≤ length (put stored (site_of f at) b) = omega (arith, length-sets b at (written stored (site_of f at))) in
      let rest = chain_step left c (put stored (site_of f at) b) (omega arith) long inside.1 apart.1 (still (site_of f at) (map (site_of f) places) b apart.0 same.1) in
      (one.0 ∙ rw (word, put_is) rest.0, one.1 ∙ rw (word, put_is) (ap (λ (r : List Site). site_of f at ∷ r) rest.1))
