-- Document 01: what a record asks for, once the selectors and its import answer are known. "then records in file order: 22,
-- 23 (unsound or unresolved targets all give 23)".
use Rattle.std.specs.Prelude.{◌≡◌, ◌⊎◌, ℕ, ◌-◌, ◌/◌, ◌%◌, List, [], ◌∷◌, ltb, eqb, length, get_or, Result, Ok, Err, Option, Some, None}
use Rattle.refusal.specs.Number.{number_of}
use Rattle.refusal.specs.declared.Refusal.{Refusal}
use Rattle.refusal.specs.declared.Refusal.TheVariants.{FixupType, TargetSegment}
use Rattle.checks.specs.Checks.{◌⇒◌, decide}
use Rattle.checks.specs.Onward.{◌>>=◌}
use Rattle.header.specs.declared.Header.{Header}
use Rattle.site.specs.declared.Kind.{Kind}
use Rattle.site.specs.declared.Fixup.{Fixup}
use Rattle.fixup.specs.declared.Record.{Record}
use Rattle.fixup.specs.declared.Target.{Target}
use Rattle.fixup.specs.declared.Target.TheVariants.{Segment, Import, Os}
use Rattle.fixup.specs.Record.{typed_of}
use Rattle.fixup.specs.Target.{target_of}
use Rattle.fixup.specs.Resolves.{Resolves}

-- A fixup to an address. "Bit 2: additive."
abbrev pub fixup_to : Kind → Record → ℕ → ℕ → Fixup
fixup_to kind r offset selector =
    record { kind = kind; additive = eqb (r.flags / 4) 1; site = r.site; offset = offset; selector = selector }

-- The selector of a segment. Its number counts from 1.
abbrev pub selector_of : List ℕ → ℕ → ℕ
selector_of selectors segment = get_or selectors (segment - 1) 0

-- "gives that segment's selector"; a step may be given fewer selectors than there are segments, and then the others don't
-- resolve. "the address comes from the import answers (a 32-bit number for each record: low word offset, high word
-- selector)". "An OS fixup changes no byte and has no site".
abbrev pub to_target : List ℕ → ℕ → Record → Kind → Target → Result (Option Fixup) Refusal
to_target selectors answer r kind (Segment segment offset) =
    decide Err ((ltb (length selectors) segment ⇒ TargetSegment) ∷ []) (Ok (Some (fixup_to kind r offset (selector_of selectors segment))))
to_target selectors answer r kind Import = Ok (Some (fixup_to kind r (answer % 65536) (answer / 65536)))
to_target selectors answer r kind Os = Ok None

-- "22: fixup type not 0, 2, 3, 5", whatever the target.
abbrev pub of_type : List ℕ → ℕ → Record → Option Kind → Result Target Refusal → Result (Option Fixup) Refusal
of_type selectors answer r (Some kind) target = target >>= to_target selectors answer r kind
of_type selectors answer r None target = Err FixupType

unfoldable pub action_of : List ℕ → Header → List ℕ → ℕ → Record → Result (Option Fixup) Refusal
action_of image h selectors answer r = of_type selectors answer r (typed_of r.kind) (target_of image h r)

-- That a record's type is known.
abbrev pub KnownType : Record → Type 0
KnownType r = (r.kind ≡ 0) ⊎ (r.kind ≡ 2) ⊎ (r.kind ≡ 3) ⊎ (r.kind ≡ 5)

-- Why a record is refused by itself: "22, 23 (unsound or unresolved targets all give 23)".
pub data RefusedAs (image : List ℕ) (h : Header) (r : Record) : Refusal → Type 0 where
  -- "fixup type not 0, 2, 3, 5", whatever its target.
  type_unknown : (KnownType r → ⊥) → RefusedAs image h r FixupType
  -- "fixup target doesn't resolve".
  target_unresolved : {why : Refusal} → KnownType r → (Resolves image h r → ⊥) → number_of why ≡ 23 → RefusedAs image h r why

-- That two lists of selectors and two import answers agree where a target looks at them: "Answers depend on the selectors of
-- segments that are targeted and on the answers at import records."
abbrev pub AgreeAt : List ℕ → List ℕ → ℕ → ℕ → Result Target Refusal → Type 0
AgreeAt selectors selectors' answer answer' (Ok (Segment segment offset)) = selector_of selectors segment ≡ selector_of selectors' segment
AgreeAt selectors selectors' answer answer' (Ok Import) = answer ≡ answer'
AgreeAt selectors selectors' answer answer' (Ok Os) = Unit
AgreeAt selectors selectors' answer answer' (Err why) = Unit
