-- What serves proofs alone: how both queries go in one walk of the table. The promises of the private functions are made of this;
-- those of the public ones are in `Resource`.
use Rattle.std.specs.Prelude.{ℕ, ◌+◌, ◌*◌, ◌≤◌, Bool, List, length, eqb, Result, Ok, Err, Option, Some, None}
use Rattle.refusal.specs.declared.Refusal.{Refusal}
use Rattle.checks.specs.Onward.{◌>>=◌}
use Rattle.tables.specs.Table.{Table, on_table}
use Rattle.tables.specs.Query.{first_of}
use Rattle.header.specs.Header.{header_of}
use Rattle.resources.specs.declared.Resource.{Resource}
use Rattle.resources.specs.declared.block.Block.{Block}
use Rattle.resources.specs.Resource.{block_resources, resources_of}

-- A block that lies in the image. The resources before it are fewer than the bytes before it.
abbrev pub Whole : List ℕ → Block → Type 0
Whole image b = (b.shift ≤ 15) × (b.used ≤ b.at) × (b.at + 12 * b.count ≤ length image)

abbrev pub has_number : ℕ → Resource → Bool
has_number number r = eqb r.number number

abbrev pub has_id : ℕ → Resource → Bool
has_id id r = eqb r.id id

-- The first resource of a block that `takes` takes.
abbrev pub first_in : (Resource → Bool) → List ℕ → Block → Option Resource
first_in takes image b = first_of takes Some None (block_resources image b)

-- What a walk of the table finds.
abbrev pub walk_of : Table Resource Refusal → (Resource → Bool) → Result (Option Resource) Refusal
walk_of t takes = on_table t Err λ rs. Ok (first_of takes Some None rs)

-- The first resource that `takes` takes.
unfoldable pub found_of : List ℕ → (Resource → Bool) → Result (Option Resource) Refusal
found_of image takes = header_of image >>= λ h. walk_of (resources_of image h) takes
