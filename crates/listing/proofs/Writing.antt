-- The laws of text that is written to a slice.
--     nothing     no text
--     then        one text after the other
--     from_front  text from the front on is a copy
--     writer_front  and so is what a writer has that had no text
--     line_parts  a line, part by part
-- Assumes nothing.
use Rattle.std.proofs.Common.{◌≡◌, refl, ap, sym, ◌∙◌, List, [], ◌∷◌, ◌++◌, ℕ, suc, ◌+◌, ◌^◌, ◌<◌, arith, length, length-append}
use Prim.Native.Nat.{min}
use lib.ListN.{set}
use lib.Seq.{sets}
use Rattle.le.specs.Slice.{copied}
use Rattle.bundle.specs.declared.Entry.{Entry}
use Rattle.listing.specs.Text.{decimal_of, hex_of}
use Rattle.listing.specs.Listing.{line_of}
use Rattle.listing.specs.Internal.{Writes}
use Rattle.listing.specs.declared.text.Writer.{Writer}

sets_append : (l : List ℕ) (at : ℕ) (a b : List ℕ) → sets l at (a ++ b) ≡ sets (sets l at a) (at + length a) b
sets_append l at [] b = let same : at + 0 ≡ at = omega arith in rw same
sets_append l at (x ∷ a) b =
    let same : at + suc (length a) ≡ suc at + length a = omega arith in
    rw same (sets_append (set l at x) (suc at) a b)

pub nothing : (w : Writer) → Writes w [] w
nothing w = record { same = refl; bytes = λ fits. refl; len = λ fits. omega arith }

pub then : {u v w : Writer} {a b : List ℕ} → Writes u a v → Writes v b w → Writes u (a ++ b) w
then {u} {v} {w} {a} {b} first second =
    let size = length-append a b in
    let before : u.len + length (a ++ b) < 2 ^ 64 → u.len + length a < 2 ^ 64 = λ fits. omega (arith, size, fits) in
    let after : u.len + length (a ++ b) < 2 ^ 64 → v.len + length b < 2 ^ 64 = λ fits. omega (arith, size, fits, first.len (before fits)) in
    record {
      same = second.same ∙ first.same;
      bytes = λ fits. second.bytes (after fits) ∙ rw (first.bytes (before fits), first.len (before fits)) (sym (sets_append u.out.now u.len a b));
      len = λ fits. omega (arith, size, first.len (before fits), second.len (after fits));
    }

-- Text that is being written: whatever writes the rest writes the whole.
abbrev pub Still : Writer → List ℕ → Writer → List ℕ → Type 0
Still now rest first all = (last : Writer) → Writes now rest last → Writes first all last

pub more : {first now later : Writer} {text rest all : List ℕ} → Writes now text later → Still now (text ++ rest) first all → Still later rest first all
more written still = λ last w. still last (then written w)

pub done : {first now : Writer} {all : List ℕ} → Still now [] first all → Writes first all now
done {first} {now} still = still now (nothing now)

-- After the first byte.
sets_cons : (x : ℕ) (l : List ℕ) (at : ℕ) (text : List ℕ) → sets (x ∷ l) (suc at) text ≡ x ∷ sets l at text
sets_cons x l at [] = refl
sets_cons x l at (t ∷ text) = sets_cons x (set l at t) (suc at) text

sets_empty : (at : ℕ) (text : List ℕ) → sets [] at text ≡ []
sets_empty at [] = refl
sets_empty at (t ∷ text) = sets_empty (suc at) text

-- As many bytes as both have.
min_suc : (a b : ℕ) → min (suc a) (suc b) ≡ suc (min a b)
min_suc a b = omega arith

front_copied : (l text : List ℕ) → sets l 0 text ≡ copied text l
front_copied [] text =
    let none : min (length text) 0 ≡ 0 = omega arith in
    rw none (sets_empty 0 text)
front_copied (x ∷ l) [] =
    let none : min 0 (suc (length l)) ≡ 0 = omega arith in
    rw none
front_copied (x ∷ l) (t ∷ text) = sets_cons t l 0 text ∙ rw (min_suc (length text) (length l)) (ap (t ∷◌) (front_copied l text))

pub from_front : (out text : List ℕ) {after : List ℕ} {end : ℕ} → after ≡ sets out 0 text → end ≡ 0 + length text → (after ≡ copied text out) × (end ≡ length text)
from_front out text bytes size = (bytes ∙ front_copied out text, omega (arith, size))

pub writer_front : {first last : Writer} {text : List ℕ} → Writes first text last → first.len ≡ 0 → length text < 2 ^ 64 → (last.out.now ≡ copied text first.out.now) × (last.len ≡ length text)
writer_front {first} {last} {text} w none short =
    let fits : first.len + length text < 2 ^ 64 = omega (arith, none, short) in
    from_front first.out.now text (rw none at (w.bytes fits)) (rw none at (w.len fits))

pub line_parts : {u v w x y : Writer} {number segment offset flag : ℕ} {n : ℕ} {e : Entry} → Writes u (decimal_of number ++ (32 ∷ [])) v → Writes v (decimal_of segment ++ (58 ∷ [])) w → Writes w (hex_of 4 offset ++ (32 ∷ [])) x → Writes x (hex_of 2 flag ++ (10 ∷ [])) y → number ≡ n → segment ≡ e.segment → offset ≡ e.offset → flag ≡ e.flag → Writes u (line_of n e) y
unfolding line_of
line_parts first second third fourth n s o f = then (rw n at first) (then (rw s at second) (then (rw o at third) (rw f at fourth)))
