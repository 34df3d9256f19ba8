-- Document 01, "Fixup rules": the fields of a record.
use Rattle.std.specs.Prelude.{ℕ, ◌+◌, ◌*◌, ◌%◌, cond, List, eqb, take, drop, Option, Some, None}
use Rattle.le.specs.Number.{byte_at, word_at}
use Rattle.site.specs.declared.Kind.TheVariants.{LowByte, Selector, Far, Offset}
use Rattle.fixup.specs.declared.Record.{Record}
use Rattle.site.specs.declared.Kind.{Kind}

-- "A record: type byte, flag byte, site word, two target words. Only the type's low four bits and the flag's low three are
-- looked at." `part` is the image from the record list's place on, and the records count from 0 there.
unfoldable pub record_at : List ℕ → ℕ → Record
record_at part index =
    let at = 8 * index in
    record {
      kind = byte_at part at % 16;
      flags = byte_at part (at + 1) % 8;
      site = word_at part (at + 2);
      first = word_at part (at + 4);
      last = word_at part (at + 6);
    }

-- The 8 bytes of a record.
abbrev pub bytes_at : List ℕ → ℕ → List ℕ
bytes_at part index = take 8 (drop (8 * index) part)

-- "Types: 0 low byte, 2 selector, 3 far pointer, 5 offset."
unfoldable pub typed_of : ℕ → Option Kind
typed_of kind =
    cond (eqb kind 0) (Some LowByte)
    (cond (eqb kind 2) (Some Selector)
    (cond (eqb kind 3) (Some Far)
    (cond (eqb kind 5) (Some Offset) None)))
