-- What a record asks for depends on the selectors and on its import answer only where its target looks at them.
--     agree        it is the same, where they agree there
--     same_shape   but for the address it is the same in any case, with as many selectors
-- Assumes nothing.
use Rattle.std.specs.Prelude.{Result, Ok, Err, Option, Some, None}
use mathlib.Core.Path.{◌≡◌, refl}
use mathlib.Core.Bool.{Bool, true, false}
use mathlib.Core.List.{List, [], ◌∷◌}
use Prim.Native.Nat.{ℕ}
use lib.Dec.{ltb}
use lib.ListN.{length}
use Rattle.refusal.specs.declared.Refusal.{Refusal}
use Rattle.refusal.specs.declared.Refusal.TheVariants.{TargetSegment}
use Rattle.checks.specs.Checks.{◌⇒◌, decide}
use Rattle.header.specs.declared.Header.{Header}
use Rattle.site.specs.declared.Kind.{Kind}
use Rattle.site.proofs.Shape.{blank_action}
use Rattle.fixup.specs.declared.Record.{Record}
use Rattle.fixup.specs.declared.Target.{Target}
use Rattle.fixup.specs.declared.Target.TheVariants.{Segment, Import, Os}
use Rattle.fixup.specs.Record.{typed_of}
use Rattle.fixup.specs.Target.{target_of}
use Rattle.fixup.specs.Action.{fixup_to, selector_of, of_type, action_of, AgreeAt}

module _ (selectors selectors' : List ℕ) (answer answer' : ℕ) (r : Record) (same : length selectors ≡ length selectors') where
  agree_type : (typed : Option Kind) (t : Result Target Refusal) → AgreeAt selectors selectors' answer answer' t → of_type selectors answer r typed t ≡ of_type selectors' answer' r typed t
  agree_type None t a = refl
  agree_type (Some kind) (Ok (Segment segment offset)) a = rw (same, a)
  agree_type (Some kind) (Ok Import) a = rw a
  agree_type (Some kind) (Ok Os) a = refl
  agree_type (Some kind) (Err why) a = refl

  pub agree : (image : List ℕ) (h : Header) → AgreeAt selectors selectors' answer answer' (target_of image h r) → action_of image h selectors answer r ≡ action_of image h selectors' answer' r
  unfolding action_of
  agree image h a = agree_type (typed_of r.kind) (target_of image h r) a

  -- With other selectors and another answer, only the address is another.
  other_address : (typed : Option Kind) (t : Result Target Refusal) → blank_action (of_type selectors answer r typed t) ≡ blank_action (of_type selectors' answer' r typed t)
  other_address None t = refl
  other_address (Some kind) (Ok (Segment segment offset)) = rw same (go (ltb (length selectors') segment))
    where
      go : (short : Bool) → blank_action (decide Err ((short ⇒ TargetSegment) ∷ []) (Ok (Some (fixup_to kind r offset (selector_of selectors segment))))) ≡ blank_action (decide Err ((short ⇒ TargetSegment) ∷ []) (Ok (Some (fixup_to kind r offset (selector_of selectors' segment)))))
      go true = refl
      go false = refl
  other_address (Some kind) (Ok Import) = refl
  other_address (Some kind) (Ok Os) = refl
  other_address (Some kind) (Err why) = refl

  pub same_shape : (image : List ℕ) (h : Header) → blank_action (action_of image h selectors answer r) ≡ blank_action (action_of image h selectors' answer' r)
  unfolding action_of
  same_shape image h = other_address (typed_of r.kind) (target_of image h r)
