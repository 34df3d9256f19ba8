-- The laws of an accepted segment.
--     record_accepted   its bytes and its records lie where `InImage` says
--     allocation_full   its allocation, and so its stored length, is at most 65,536
--     accepted          so do those of a segment found by its number, in an image of at most 16,777,216 bytes
-- Assumes nothing.
use Rattle.std.specs.Prelude.{Result, Ok, Err}
use mathlib.Core.Path.{◌≡◌, refl, ap, sym, ◌∙◌}
use mathlib.Core.Bool.{Bool, true, false, cond, ◌&&◌}
use mathlib.Core.List.{List, ◌∷◌, []}
use Prim.Native.Nat.{ℕ, ◌+◌, ◌*◌, ◌-◌, ◌≤◌}
use native.Mathlib.Omega.{arith}
use borrow.Author.Tests.{ltb-false}
use lib.Dec.{ltb}
use lib.ListN.{length}
use Rattle.refusal.specs.declared.Refusal.TheVariants.{NoSuchNumber}
use Rattle.checks.proofs.Impossible.{never}
use Rattle.checks.specs.Checks.{decide, ◌⇒◌}
use Rattle.checks.specs.Internal.{Passed}
use Rattle.checks.proofs.Checks.{passed, answered}
use Rattle.le.specs.Number.{word_at, Bytes}
use Rattle.le.proofs.Number.{number_below}
use Rattle.header.specs.Header.{header_of, lacks}
use Rattle.header.specs.declared.Header.{Header}
use Rattle.refusal.specs.declared.Refusal.{Refusal}
use Rattle.header.proofs.Bounds as header-bounds
use Rattle.segment.specs.Segment.{segment_of, record_of, segment_at, segment_checks, sector_of, record_place, records_follow}
use Rattle.segment.proofs.Words.{full_below}
use Rattle.segment.specs.InImage.{InImage}
use Rattle.segment.specs.declared.Segment.{Segment}

is_refusal : Result Segment Refusal → Bool
is_refusal (Ok s) = false
is_refusal (Err why) = true

-- Where no records follow, there is no list; where they do, the last check bounds it.
guarded : (follow : Bool) (a b len : ℕ) → (follow && ltb len (cond follow a 0 + 8 * cond follow b 0)) ≡ false → cond follow a 0 + 8 * cond follow b 0 ≤ len
guarded true a b len e = ltb-false len (a + 8 * b) e
guarded false a b len e = omega arith

-- The checks of a segment, all passed.
abbrev AllPassed : List ℕ → Header → ℕ → Type 0
AllPassed image h index = Passed (segment_checks (length image) (sector_of image h index) (segment_at image h index))

list_inside : (image : List ℕ) (h : Header) (index : ℕ) → AllPassed image h index → (segment_at image h index).list + 8 * (segment_at image h index).records ≤ length image
unfolding segment_at segment_checks
list_inside image h index p =
    let s = segment_at image h index in
    guarded (records_follow s.flags) (s.start + s.stored + 2) (word_at image (s.start + s.stored)) (length image)
    p.1.1.1.1.1.0

inside : (image : List ℕ) (h : Header) (index : ℕ) → AllPassed image h index → InImage image (segment_at image h index)
unfolding segment_checks
inside image h index p =
    record {
      stored = ltb-false _ _ p.1.1.0;
      allocation = ltb-false _ _ p.1.0;
      records = list_inside image h index p;
    }

-- What an accepted record answers is what it says.
record_is : (image : List ℕ) (h : Header) (index : ℕ) (s : Segment) → record_of image h index ≡ Ok s → s ≡ segment_at image h index
unfolding record_of is_refusal
record_is image h index s e =
    let checks = segment_checks (length image) (sector_of image h index) (segment_at image h index) in
    let is = answered Err is_refusal (λ why. refl) checks (Ok (segment_at image h index)) (ap is_refusal e) in
    cc

pub record_accepted : (image : List ℕ) (h : Header) (index : ℕ) (s : Segment) → record_of image h index ≡ Ok s → InImage image s
unfolding record_of is_refusal
record_accepted image h index s e =
    let checks = segment_checks (length image) (sector_of image h index) (segment_at image h index) in
    rw (record_is image h index s e)
    (inside image h index (passed Err is_refusal (λ why. refl) checks (Ok (segment_at image h index)) (ap is_refusal e)))

pub allocation_full : (image : List ℕ) (h : Header) (index : ℕ) (s : Segment) → record_of image h index ≡ Ok s → Bytes image → s.allocation ≤ 65536
unfolding segment_at
allocation_full image h index s e bytes =
    rw (record_is image h index s e)
    (full_below _ (number_below 2 image (record_place h index + 6) bytes))

-- An accepted segment has an accepted header, and its record is accepted.
pub accepted : (image : List ℕ) (number : ℕ) (s : Segment) → segment_of image number ≡ Ok s → (length image ≤ 16777216) × InImage image s
unfolding segment_of is_refusal
accepted image number s e = go (header_of image) refl
  where
    go : (a : Result Header Refusal) → header_of image ≡ a → (length image ≤ 16777216) × InImage image s
    go (Ok h) q =
        let checks = (lacks h.segments.count number ⇒ NoSuchNumber) ∷ [] in
        let found : decide Err checks (record_of image h (number - 1)) ≡ Ok s = rw q at e in
        let is = answered Err is_refusal (λ why. refl) checks (record_of image h (number - 1)) (ap is_refusal found) in
        ((header-bounds.accepted image h q).size, record_accepted image h (number - 1) s (sym is ∙ found))
    go (Err why) q =
        let found : Err why ≡ Ok s = rw q at e in
        never cc
