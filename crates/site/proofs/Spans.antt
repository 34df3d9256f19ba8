-- The laws of spans.
--     wide             a span has a byte at least, and two where the record is chained
--     within           what is written lies in the span
--     sites_few        spans that lie in the stored bytes and share no byte are at most as many as there are bytes
-- Assumes nothing.
use mathlib.Core.Bool.{Bool, true, false}
use mathlib.Core.List.{List, [], ◌∷◌, map}
use Prim.Native.Nat.{ℕ, ◌≤◌, ◌<◌}
use native.Mathlib.Omega.{arith}
use lib.ListN.{length, length-map}
use Rattle.lists.specs.Lists.{All, Pairs}
use Rattle.lists.proofs.All.{all_map, all_mapped}
use Rattle.lists.proofs.Distinct.{Differ, few}
use Rattle.site.specs.Site.{Site, width_of, InSpan, Inside, Apart, written_over, written}
use Rattle.site.specs.Exact.{IsWritten}
use Rattle.site.specs.declared.Kind.{Kind}
use Rattle.site.specs.declared.Kind.TheVariants.{LowByte, Selector, Far, Offset}
use Rattle.site.specs.declared.Fixup.{Fixup}

pub wide : (kind : Kind) (additive : Bool) → 1 ≤ width_of kind additive
wide Far additive = omega arith
wide Selector additive = omega arith
wide Offset additive = omega arith
wide LowByte true = omega arith
wide LowByte false = omega arith

pub wide_chained : (kind : Kind) → 2 ≤ width_of kind false
wide_chained Far = omega arith
wide_chained Selector = omega arith
wide_chained Offset = omega arith
wide_chained LowByte = omega arith

short : (kind : Kind) (additive : Bool) (f : Fixup) (byte word : ℕ) → length (written_over kind f byte word) ≤ width_of kind additive
short Far additive f byte word = omega arith
short Selector additive f byte word = omega arith
short Offset additive f byte word = omega arith
short LowByte true f byte word = omega arith
short LowByte false f byte word = omega arith

pub within : (bytes : List ℕ) (s : Site) → length (written bytes s) ≤ width_of s.fixup.kind s.fixup.additive
unfolding written
within bytes s = short s.fixup.kind s.fixup.additive s.fixup _ _

pub written_in_span : (bytes : List ℕ) (s : Site) (place : ℕ) → IsWritten bytes place s → InSpan place s
written_in_span bytes s place h = (h.0, omega (arith, within bytes s, h.1))

-- The first byte of a span lies in it, so that the places of sites that share no byte differ.
pub first_byte : (s : Site) → InSpan s.at s
first_byte s = (omega arith, omega (arith, wide s.fixup.kind s.fixup.additive))

apart_differ : (s t : Site) → Apart s t → Differ s.at t.at
apart_differ s t a e =
    let there : InSpan s.at t = rw e (first_byte t) in
    a s.at (first_byte s) there

places_differ : (sites : List Site) → Pairs Apart sites → Pairs Differ (map (λ (s : Site). s.at) sites)
places_differ [] p = tt
places_differ (s ∷ sites) p =
    (all_mapped (λ (t : Site). t.at) (Differ s.at) sites (all_map (Apart s) (λ t. Differ s.at t.at) (apart_differ s) sites p.0), places_differ sites p.1)

pub sites_few : (stored : List ℕ) (sites : List Site) → All (Inside stored) sites → Pairs Apart sites → length sites ≤ length stored
sites_few stored sites inside apart =
    let below = all_mapped (λ (s : Site). s.at) (λ n. n < length stored) sites (all_map (Inside stored) (λ s. s.at < length stored) first sites inside) in
    let bound = few (length stored) (map (λ (s : Site). s.at) sites) below (places_differ sites apart) in
    omega (arith, length-map sites (λ (s : Site). s.at))
  where
    first : (s : Site) → Inside stored s → s.at < length stored
    first s h = omega (arith, wide s.fixup.kind s.fixup.additive)
