-- Demand 2: the bytes of a segment whose sites are sound, and the marks.
--     exactly, marked_exactly          what they are
--     prepared_front, marked_front     they can be made in as many bytes as are stored
-- Assumes nothing.
use mathlib.Core.Path.{◌≡◌, sym, ◌∙◌}
use mathlib.Core.List.{List, ◌++◌}
use Prim.Native.Nat.{ℕ, ◌+◌, ◌-◌, ◌≤◌, ◌<◌}
use native.Mathlib.Omega.{arith}
use lib.ListN.{length, replicate, length-append, length-replicate, get_or-replicate, replicate-append-replicate, get_or-append, get_or-eq_default}
use lib.Seq.{get_or-append-add}
use native.Mathlib.Decide.{dec_lt}
use Rattle.le.specs.Number.{byte_at}
use Rattle.le.specs.Slice.{zeros}
use Rattle.lists.specs.Lists.{All, Pairs, in_turn}
use Rattle.lists.proofs.All.{all_map, pairs_map}
use Rattle.site.specs.Site.{Site, width_of, end_of, InSpan, Inside, Apart, written, put}
use Rattle.site.specs.Prepared.{unfixed, prepared, marked}
use Rattle.site.specs.Exact.{Exact, Marked}
use Rattle.site.proofs.Runs as runs
use Rattle.site.proofs.Spans.{within, written_in_span}

abbrev pub place_of : Site → ℕ
place_of s = s.at

pub zero_at : (n p : ℕ) → byte_at (zeros n) p ≡ 0
zero_at n p = go (dec_lt p n)
  where
    go : Dec (p < n) → byte_at (zeros n) p ≡ 0
    go (yes h) = get_or-replicate n p 0 0 h
    go (no h) = get_or-eq_default (zeros n) 0 (omega (arith, length-replicate {A = ℕ} n 0))

module _ (stored : List ℕ) (allocation : ℕ) (fits : length stored ≤ allocation) where
  pub unfixed_length : length (unfixed stored allocation) ≡ allocation
  unfixed_length = omega (arith, length-append stored (zeros (allocation - length stored)), length-replicate {A = ℕ} (allocation - length stored) 0)

  pub unfixed_at : (p : ℕ) → byte_at (unfixed stored allocation) p ≡ byte_at stored p
  unfixed_at p = go (dec_lt p (length stored))
    where
      go : Dec (p < length stored) → byte_at (unfixed stored allocation) p ≡ byte_at stored p
      go (yes h) = get_or-append stored (zeros (allocation - length stored)) 0 p h
      go (no h) =
          let past : length stored ≤ p = omega arith in
          let on : length stored + (p - length stored) ≡ p = omega arith in
          let tail = get_or-append-add stored (zeros (allocation - length stored)) (p - length stored) 0 ∙ zero_at (allocation - length stored) (p - length stored) in
          let whole : byte_at (unfixed stored allocation) p ≡ 0 = rw on at tail in
          whole ∙ sym (get_or-eq_default stored 0 past)

  clear : (s t : Site) → Apart s t → runs.Clear place_of (written stored) s t
  clear s t a p h k = a p (written_in_span stored s p h) (written_in_span stored t p k)

  pub exactly : (sites : List Site) → All (Inside stored) sites → Pairs Apart sites → Exact stored allocation sites (prepared stored allocation sites)
  exactly sites inside apart =
      record {
        size = runs.length_runs place_of (written stored) sites (unfixed stored allocation) ∙ unfixed_length;
        there = runs.there place_of (written stored) sites (unfixed stored allocation) (pairs_map Apart (runs.Clear place_of (written stored)) clear sites apart) (all_map (Inside stored) (λ s. s.at + length (written stored s) ≤ length (unfixed stored allocation)) room sites inside);
        elsewhere = λ p h. runs.kept place_of (written stored) sites (unfixed stored allocation) p h ∙ unfixed_at p;
      }
    where
      room : (s : Site) → Inside stored s → s.at + length (written stored s) ≤ length (unfixed stored allocation)
      room s h = omega (arith, within stored s, unfixed_length)

-- A span as a run of ones.
abbrev ones : Site → List ℕ
ones s = replicate (width_of s.fixup.kind s.fixup.additive) 1

ones_in_span : (s : Site) (p : ℕ) → runs.Hits place_of ones p s → InSpan p s
ones_in_span s p h = (h.0, omega (arith, h.1, length-replicate {A = ℕ} (width_of s.fixup.kind s.fixup.additive) 1))

pub marked_exactly : (size : ℕ) (sites : List Site) → All (λ s. end_of s ≤ size) sites → Pairs Apart sites → Marked size sites (marked size sites)
marked_exactly size sites inside apart =
    record {
      size_kept = runs.length_runs place_of ones sites (zeros size) ∙ length-replicate size 0;
      one = all_map Stands One one sites (runs.there place_of ones sites (zeros size) (pairs_map Apart (runs.Clear place_of ones) clear sites apart) (all_map (λ s. end_of s ≤ size) Room room sites inside));
      zero_else = λ p h. runs.kept place_of ones sites (zeros size) p (all_map (λ s. InSpan p s → ⊥) (λ s. runs.Hits place_of ones p s → ⊥) (λ s n k. n (ones_in_span s p k)) sites h) ∙ zero_at size p;
    }
  where
    Stands : Site → Type 0
    Stands s = (i : ℕ) → i < length (ones s) → byte_at (marked size sites) (s.at + i) ≡ byte_at (ones s) i

    One : Site → Type 0
    One s = (p : ℕ) → InSpan p s → byte_at (marked size sites) p ≡ 1

    Room : Site → Type 0
    Room s = s.at + length (ones s) ≤ length (zeros size)

    clear : (s t : Site) → Apart s t → runs.Clear place_of ones s t
    clear s t a p h k = a p (ones_in_span s p h) (ones_in_span t p k)

    room : (s : Site) → end_of s ≤ size → Room s
    room s h = omega (arith, length-replicate {A = ℕ} (width_of s.fixup.kind s.fixup.additive) 1, length-replicate {A = ℕ} size 0)

    one : (s : Site) → Stands s → One s
    one s h p k =
        let width = width_of s.fixup.kind s.fixup.additive in
        let on : s.at + (p - s.at) ≡ p = omega (arith, k.0) in
        let low : p - s.at < width = omega (arith, k.0, k.1) in
        let stands = h (p - s.at) (omega (arith, length-replicate {A = ℕ} width 1)) ∙ get_or-replicate width (p - s.at) 1 0 low in
        rw on at stands

-- All sites can be written in the stored bytes alone, and the zeros stand behind them.
pub prepared_front : (stored : List ℕ) (allocation : ℕ) (sites : List Site) → All (Inside stored) sites → unfixed (in_turn (put stored) sites stored) allocation ≡ prepared stored allocation sites
prepared_front stored allocation sites inside =
    let size = runs.length_runs place_of (written stored) sites stored in
    rw size (sym (runs.runs_front place_of (written stored) sites stored (zeros (allocation - length stored)) (all_map (Inside stored) (λ s. s.at + length (written stored s) ≤ length stored) room sites inside)))
  where
    room : (s : Site) → Inside stored s → s.at + length (written stored s) ≤ length stored
    room s h = omega (arith, within stored s)

-- And so can the marks.
pub marked_front : (few size : ℕ) (sites : List Site) → few ≤ size → All (λ s. end_of s ≤ few) sites → marked few sites ++ zeros (size - few) ≡ marked size sites
marked_front few size sites fits inside =
    let on : few + (size - few) ≡ size = omega arith in
    let parts : zeros few ++ zeros (size - few) ≡ zeros size = replicate-append-replicate few (size - few) 0 ∙ rw on in
    sym (runs.runs_front place_of ones sites (zeros few) (zeros (size - few)) (all_map (λ s. end_of s ≤ few) (λ s. s.at + length (ones s) ≤ length (zeros few)) room sites inside)) ∙ rw parts
  where
    room : (s : Site) → end_of s ≤ few → s.at + length (ones s) ≤ length (zeros few)
    room s h = omega (arith, length-replicate {A = ℕ} (width_of s.fixup.kind s.fixup.additive) 1, length-replicate {A = ℕ} few 0)
