-- Document 01, "Target": what a record's target words name. It depends on the image's header and tables and on the record
-- alone.
use Rattle.std.specs.Prelude.{ℕ, ◌%◌, cond, List, [], ◌∷◌, eqb, Result, Ok, Err, Option, Some, None}
use Rattle.refusal.specs.declared.Refusal.TheVariants.{TargetSegment, TargetModule, TargetOrdinal, TargetString}
use Rattle.checks.specs.Checks.{◌⇒◌, decide}
use Rattle.header.specs.Header.{lacks}
use Rattle.header.specs.declared.Header.{Header}
use Rattle.bundle.specs.declared.Entry.{Entry}
use Rattle.imports.specs.declared.Text.{Text}
use Rattle.refusal.specs.declared.Refusal.{Refusal}
use Rattle.entry.specs.Ordinal.{ordinal_in}
use Rattle.imports.specs.Module.{string_at}
use Rattle.fixup.specs.declared.Record.{Record}
use Rattle.fixup.specs.declared.Target.{Target}
use Rattle.fixup.specs.declared.Target.TheVariants.{Segment, Import, Os}

-- "255 gives the entry of the ordinal".
abbrev pub entry_target : Result Entry Refusal → Result Target Refusal
entry_target (Ok e) = Ok (Segment e.segment e.offset)
entry_target (Err why) = Err TargetOrdinal

-- "Internal: the first target byte is the segment, the next is not read; 1 to the count (not 255) gives that segment's selector,
-- with the last word as offset".
abbrev pub segment_target : Header → Record → Result Target Refusal
segment_target h r =
    let segment = r.first % 256 in
    decide Err ((lacks h.segments.count segment ⇒ TargetSegment) ∷ []) (Ok (Segment segment r.last))

-- "Internal: […] 255 gives the entry of the ordinal in the last word."
unfoldable pub internal_target : List ℕ → Header → Record → Result Target Refusal
internal_target image h r =
    let entry = entry_target (ordinal_in image h r.last) in
    cond (eqb (r.first % 256) 255) entry (segment_target h r)

-- "Import: the first word is a module number 1 to the count, whose own string isn't looked at".
abbrev pub import_target : Header → Record → Result Target Refusal → Result Target Refusal
import_target h r found = decide Err ((lacks h.modules.count r.first ⇒ TargetModule) ∷ []) found

-- "by name, the string at the last word, counted from the imported names, must be sound".
abbrev pub name_target : Option Text → Result Target Refusal
name_target (Some text) = Ok Import
name_target None = Err TargetString

-- "Flag bits 0 and 1: 0 internal, 1 import by ordinal, 2 import by name, 3 OS fixup." "its target words aren't read".
unfoldable pub target_of : List ℕ → Header → Record → Result Target Refusal
target_of image h r =
    let how = r.flags % 4 in
    let named = name_target (string_at image h r.last) in
    cond (eqb how 0) (internal_target image h r)
    (cond (eqb how 1) (import_target h r (Ok Import))
    (cond (eqb how 2) (import_target h r named) (Ok Os)))
