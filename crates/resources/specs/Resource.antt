-- Document 01, "Resources": the table as a list of resources in file order, and the two queries.
use Rattle.std.specs.Prelude.{ℕ, zero, suc, ◌+◌, ◌*◌, ◌/◌, ◌^◌, Bool, cond, ◌&&◌, List, [], ◌∷◌, length, ltb, eqb, Result, Ok, Err}
use Rattle.le.specs.Number.{word_at}
use Rattle.refusal.specs.declared.Refusal.{Refusal}
use Rattle.refusal.specs.declared.Refusal.TheVariants.{NoSuchNumber, ResourceTable, ResourceShift, NoSuchResource, ResourceOutside}
use Rattle.checks.specs.Checks.{◌⇒◌, decide}
use Rattle.tables.specs.Table.{Place, Step, Next, End, Stop, Table, Sound, Unsound, on_table, table_of}
use Rattle.tables.specs.Query.{numbered, first_of}
use Rattle.header.specs.Header.{header_of}
use Rattle.checks.specs.Onward.{◌>>=◌}
use Rattle.header.specs.declared.Header.{Header}
use Rattle.resources.specs.declared.Resource.{Resource}
use Rattle.resources.specs.declared.block.Block.{Block}

-- "offset, length, flags, id, 4 reserved. [...] Offset and length are both shifted". The resource of an index, counted from 0
-- in its block; "resources are numbered from 1 in that order, all types together".
unfoldable pub resource_at : List ℕ → Block → ℕ → Resource
resource_at image b index =
    let at = b.at + 12 * index in
    record {
      number = b.used + index + 1;
      kind = b.kind;
      id = word_at image (at + 6);
      flags = word_at image (at + 4);
      at = word_at image at * 2 ^ b.shift;
      len = word_at image (at + 2) * 2 ^ b.shift;
    }

-- So many resources of a block, from an index on.
unfoldable pub resources_from : ℕ → List ℕ → Block → ℕ → List Resource
resources_from zero image b index = []
resources_from (suc left) image b index = resource_at image b index ∷ resources_from left image b (suc index)

abbrev pub block_resources : List ℕ → Block → List Resource
block_resources image b = resources_from b.count image b 0

-- "blocks of type word, count word, 4 reserved bytes and 12 bytes for each resource".
abbrev pub block_at : List ℕ → ℕ → Place → Block
block_at image shift p = record { kind = word_at image p.at; shift = shift; used = p.used; at = p.at + 8; count = word_at image (p.at + 2) }

-- The place behind a block.
abbrev pub behind : Block → Place
behind b = record { at = b.at + 12 * b.count; used = b.used + b.count }

-- What stands at a place of the table: a block, or its end ("Type 0 ends the table"), which has a type word only. "18: resource
-- table leaves the image".
unfoldable pub step_of : List ℕ → ℕ → Place → Step Resource Refusal
step_of image shift p =
    let b = block_at image shift p in
    decide Stop ((ltb (length image) (p.at + 2) ⇒ ResourceTable) ∷ [])
    (cond (eqb b.kind 0) End
    (decide Stop ((ltb (length image) (b.at + 12 * b.count) ⇒ ResourceTable) ∷ [])
    (Next (block_resources image b) (behind b))))

-- The blocks from a place on.
abbrev pub blocks_from : List ℕ → ℕ → ℕ → Table Resource Refusal
blocks_from image shift at = table_of (step_of image shift) ResourceTable (length image) (record { at = at; used = 0 })

-- "if the places at 24 and 26 are equal there are none (house). Otherwise a shift word, then blocks". "18: resource table
-- leaves the image, or its shift is over 15".
unfoldable pub resources_of : List ℕ → Header → Table Resource Refusal
resources_of image h =
    let at = h.resources in
    let shift = word_at image at in
    cond (eqb at h.resident) (Sound [])
    (decide Unsound ((ltb (length image) (at + 2) ⇒ ResourceTable) ∷ (ltb 15 shift ⇒ ResourceShift) ∷ [])
    (blocks_from image shift (at + 2)))

-- "20: found resource's data leaves the image".
unfoldable pub data_checked : ℕ → Resource → Result Resource Refusal
data_checked len r = decide Err ((ltb len (r.at + r.len) ⇒ ResourceOutside) ∷ []) (Ok r)

-- "Resource: 18, then 8 or 19, then 20": the header's refusals, the table's, then what is asked of its resources.
abbrev pub asked : List ℕ → (List Resource → Result Resource Refusal) → Result Resource Refusal
asked image query = header_of image >>= λ h. on_table (resources_of image h) Err query

-- "8: number 0 or above the count".
unfoldable pub resource_by_number : List ℕ → ℕ → Result Resource Refusal
resource_by_number image number = asked image (numbered number (data_checked (length image)) (Err NoSuchNumber))

-- "A query gives two words with the high bit set; a word without it finds nothing." A number over 16 bits
-- is no such word.
abbrev pub high_bit : ℕ → Bool
high_bit word = eqb (word / 0x8000) 1

abbrev pub has_kind_and_id : ℕ → ℕ → Resource → Bool
has_kind_and_id kind id r = high_bit kind && (high_bit id && (eqb r.kind kind && eqb r.id id))

-- "First match in file order". "19: resource not found".
unfoldable pub resource_by_words : List ℕ → ℕ → ℕ → Result Resource Refusal
resource_by_words image kind id = asked image (first_of (has_kind_and_id kind id) (data_checked (length image)) (Err NoSuchResource))
