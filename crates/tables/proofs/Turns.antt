-- The law of a table from a place on: it doesn't matter how many turns are left over, so the table is what stands at the
-- place, and then the table behind it.
-- Assumes nothing.
use mathlib.Core.Path.{◌≡◌, refl, ap}
use mathlib.Core.List.{List, []}
use Prim.Native.Nat.{ℕ, zero, suc, ◌+◌, ◌≤◌, ◌<◌}
use native.Mathlib.Omega.{arith}
use Rattle.tables.specs.Table.{Place, Step, Next, End, Stop, Sound, Unsound, after, on_step, table_from, table_of}

-- Each step goes on, and not past the limit.
module _ {A W : Type 0} (step : Place → Step A W) (late : W) (limit : ℕ) (on : (p : Place) (xs : List A) (t : Place) → step p ≡ Next xs t → (p.at < t.at) × (t.at ≤ limit)) where
  -- More turns than enough change nothing.
  abbrev Enough : ℕ → Type 0
  Enough f = (g : ℕ) (p : Place) → limit ≤ p.at + f → limit ≤ p.at + g → table_from step late (suc f) p ≡ table_from step late (suc g) p

  behind : (f g : ℕ) (p : Place) (xs : List A) (t : Place) → step p ≡ Next xs t → ((f' : ℕ) → f ≡ suc f' → Enough f') → limit ≤ p.at + f → limit ≤ p.at + g → table_from step late f t ≡ table_from step late g t
  behind zero g p xs t e ih hf hg = let w = on p xs t e in absurd (omega (arith, w.0, w.1))
  behind (suc f) zero p xs t e ih hf hg = let w = on p xs t e in absurd (omega (arith, w.0, w.1))
  behind (suc f) (suc g) p xs t e ih hf hg =
      let w = on p xs t e in
      let left : limit ≤ t.at + f = omega (arith, w.0) in
      let right : limit ≤ t.at + g = omega (arith, w.0) in
      ih f refl g t left right

  one_turn : (f : ℕ) → ((f' : ℕ) → f ≡ suc f' → Enough f') → Enough f
  unfolding table_from
  one_turn f ih g p hf hg = go (step p) refl
    where
      go : (r : Step A W) → step p ≡ r → on_step r Unsound (Sound []) (λ xs t. after xs (table_from step late f t)) ≡ on_step r Unsound (Sound []) (λ xs t. after xs (table_from step late g t))
      go (Stop why) e = refl
      go End e = refl
      go (Next xs t) e = ap (after xs) (behind f g p xs t e ih hf hg)

  enough : (f : ℕ) → Enough f
  enough zero = one_turn zero (λ f' e. absurd (omega arith))
  enough (suc f) = one_turn (suc f) (λ f' e. let same : f' ≡ f = omega arith in rw same (enough f))

  -- The last turn isn't needed behind a step.
  spared : (limit' : ℕ) (t : Place) → limit' ≡ limit → 0 < t.at → t.at ≤ limit → table_from step late limit' t ≡ table_from step late (suc limit) t
  spared zero t e h k = absurd (omega arith)
  spared (suc l) t e h k =
      let left : limit ≤ t.at + l = omega arith in
      let right : limit ≤ t.at + limit = omega arith in
      enough l limit t left right

  pub unrolled : (p : Place) → table_of step late limit p ≡ on_step (step p) Unsound (Sound []) (λ xs t. after xs (table_of step late limit t))
  unfolding table_from table_of
  unrolled p = go (step p) refl
    where
      go : (r : Step A W) → step p ≡ r → on_step r Unsound (Sound []) (λ xs t. after xs (table_from step late limit t)) ≡ on_step r Unsound (Sound []) (λ xs t. after xs (table_from step late (suc limit) t))
      go (Stop why) e = refl
      go End e = refl
      go (Next xs t) e =
          let w = on p xs t e in
          let gone : 0 < t.at = omega (arith, w.0) in
          ap (after xs) (spared limit t refl gone w.1)
