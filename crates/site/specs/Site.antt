-- Document 01, "Fixup rules": a site, its span, and what is written there.
use Rattle.std.specs.Prelude.{ℕ, ◌+◌, ◌≤◌, ◌<◌, ◌%◌, Bool, true, false, List, ◌++◌, length}
use Rattle.std.proofs.lemmas.List.Edits.{sets}
use Rattle.le.specs.Number.{byte_at, word_at, bytes_of}
use Rattle.site.specs.declared.Kind.{Kind}
use Rattle.site.specs.declared.Kind.TheVariants.{LowByte, Selector, Far, Offset}
use Rattle.site.specs.declared.Fixup.{Fixup}

-- A site of a fixup: a place in the segment.
pub record Site : Type 0 where
  pub fixup : Fixup
  pub at : ℕ

abbrev pub site_of : Fixup → ℕ → Site
site_of f at = record { fixup = f; at = at }

-- "Span: far 4 bytes, selector and offset 2, low byte 2 when chained and 1 when additive."
abbrev pub width_of : Kind → Bool → ℕ
width_of Far additive = 4
width_of Selector additive = 2
width_of Offset additive = 2
width_of LowByte false = 2
width_of LowByte true = 1

-- The place behind the span of a site.
abbrev pub end_of : Site → ℕ
end_of s = s.at + width_of s.fixup.kind s.fixup.additive

-- That a byte lies in the span of a site.
abbrev pub InSpan : ℕ → Site → Type 0
InSpan place s = (s.at ≤ place) × (place < end_of s)

-- "Every span lies in the stored bytes".
abbrev pub Inside : List ℕ → Site → Type 0
Inside stored s = end_of s ≤ length stored

-- "all spans of all records are disjoint": no byte lies in both.
abbrev pub Apart : Site → Site → Type 0
Apart s t = (place : ℕ) → InSpan place s → InSpan place t → ⊥

-- What the target is added to. "Not additive: the target replaces."
abbrev pub added_to : Bool → ℕ → ℕ
added_to true there = there
added_to false there = 0

-- "the low byte is added modulo 256".
abbrev pub low_byte_of : Fixup → ℕ → ℕ
low_byte_of f there = (added_to f.additive there + f.offset) % 256

-- "offset words are added modulo 65,536, with no carry into the selector".
abbrev pub offset_of : Fixup → ℕ → ℕ
offset_of f there = (added_to f.additive there + f.offset) % 65536

-- "Written: low byte 1 byte, the others their width." "a selector word is replaced, never added". What a fixup writes where
-- this byte and this word stand; a far pointer has its offset first.
abbrev pub written_over : Kind → Fixup → ℕ → ℕ → List ℕ
written_over LowByte f byte word = bytes_of 1 (low_byte_of f byte)
written_over Selector f byte word = bytes_of 2 f.selector
written_over Far f byte word = bytes_of 2 (offset_of f word) ++ bytes_of 2 f.selector
written_over Offset f byte word = bytes_of 2 (offset_of f word)

-- What is written at a site where `bytes` are the segment's, from the site's first byte on.
unfoldable pub written : List ℕ → Site → List ℕ
written bytes s = written_over s.fixup.kind s.fixup (byte_at bytes s.at) (word_at bytes s.at)

-- A buffer with a site written, as it is to be where `bytes` are the segment's.
abbrev pub put : List ℕ → Site → List ℕ → List ℕ
put bytes s buffer = sets buffer s.at (written bytes s)
