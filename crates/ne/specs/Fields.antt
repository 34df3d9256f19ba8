-- The fields of each C result, in the order of its struct.
use Rattle.std.specs.Prelude.{◌≡◌, ℕ, List, [], ◌∷◌}
use Rattle.ne.specs.declared.NeHeader.{NeHeader}
use Rattle.ne.specs.declared.NeSegment.{NeSegment}
use Rattle.ne.specs.declared.NeOrdinal.{NeOrdinal}
use Rattle.ne.specs.declared.NeName.{NeName}
use Rattle.ne.specs.declared.NeModule.{NeModule}
use Rattle.ne.specs.declared.NeResource.{NeResource}
use Rattle.ne.specs.declared.NePrepare.{NePrepare}
use Rattle.prepare.specs.Prepare.{Request, prepare_of, answer_of, values_of}
use Rattle.prepare.specs.Promise.{Promise}

abbrev pub header_fields : NeHeader → List ℕ
header_fields r =
    r.refusal
    ∷ r.header_at
    ∷ r.unit
    ∷ r.segments_at
    ∷ r.segments
    ∷ r.modules_at
    ∷ r.modules
    ∷ r.entries_at
    ∷ r.entries_len
    ∷ r.nonresident_at
    ∷ r.nonresident_len
    ∷ r.resident_at
    ∷ r.imported_at
    ∷ r.resources_at
    ∷ []

abbrev pub segment_fields : NeSegment → List ℕ
segment_fields r = r.refusal ∷ r.start ∷ r.stored ∷ r.flags ∷ r.allocation ∷ r.records ∷ []

abbrev pub ordinal_fields : NeOrdinal → List ℕ
ordinal_fields r = r.refusal ∷ r.segment ∷ r.offset ∷ r.flag ∷ []

abbrev pub name_fields : NeName → List ℕ
name_fields r = r.refusal ∷ r.number ∷ r.text_at ∷ r.text_len ∷ r.ordinal ∷ []

abbrev pub module_fields : NeModule → List ℕ
module_fields r = r.refusal ∷ r.text_at ∷ r.text_len ∷ []

abbrev pub resource_fields : NeResource → List ℕ
resource_fields r = r.refusal ∷ r.kind ∷ r.id ∷ r.flags ∷ r.data_at ∷ r.data_len ∷ []

abbrev pub prepare_fields : NePrepare → List ℕ
prepare_fields r = r.refusal ∷ r.«record» ∷ r.sites ∷ []

-- What `ne_prepare` promises: the numbers of the answer, and preparing's promise on the two buffers.
pub record Prepares (q : Request) (r : NePrepare) (output output' marks marks' : List ℕ) : Type 0 where
  pub fields : prepare_fields r ≡ values_of (answer_of (prepare_of q))
  pub buffers : Promise q (answer_of (prepare_of q)) output output' marks marks'
