-- Document 01, "Module reference": the strings in the imported names, and the module of a number.
use Rattle.std.specs.Prelude.{ℕ, ◌+◌, ◌*◌, ◌-◌, cond, ◌||◌, List, [], ◌∷◌, length, ltb, eqb, Result, Ok, Err, Option, Some, None}
use Rattle.le.specs.Number.{byte_at, word_at}
use Rattle.refusal.specs.declared.Refusal.TheVariants.{NoSuchNumber, ImportedString}
use Rattle.checks.specs.Checks.{◌⇒◌, decide}
use Rattle.checks.specs.Onward.{◌>>=◌}
use Rattle.header.specs.Header.{header_of, lacks}
use Rattle.header.specs.declared.Header.{Header}
use Rattle.imports.specs.declared.Text.{Text}
use Rattle.refusal.specs.declared.Refusal.{Refusal}

-- "a place in the imported names, where a length byte and text stand. A string that is empty or leaves the image is
-- unsound." Past the image's end a length byte reads as 0.
unfoldable pub string_at : List ℕ → Header → ℕ → Option Text
string_at image h place =
    let at = h.imported + place in
    let len = byte_at image at in
    cond (eqb len 0 || ltb (length image) (at + 1 + len)) None (Some (record { at = at + 1; len = len }))

-- "16: unsound name list or string".
abbrev pub named : Option Text → Result Text Refusal
named (Some text) = Ok text
named None = Err ImportedString

-- "Module reference n is a word". "Module: 8, then 16 for its string alone."
unfoldable pub reference_of : List ℕ → Header → ℕ → Result Text Refusal
reference_of image h number =
    decide Err ((lacks h.modules.count number ⇒ NoSuchNumber) ∷ [])
    (named (string_at image h (word_at image (h.modules.at + 2 * (number - 1)))))

-- What asking for a module answers: the header's refusals, then these.
unfoldable pub module_of : List ℕ → ℕ → Result Text Refusal
module_of image number = header_of image >>= λ h. reference_of image h number
