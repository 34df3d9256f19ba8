-- What the answer to a claim says of the span.
--     claimed   it lies inside the marks, and none of its bytes was marked
--     refused   what is made of the refusal is what the two checks decide
-- Assumes nothing.
use Rattle.std.proofs.Common.{◌≡◌, refl, Bool, true, false, cond, List, ℕ, ◌+◌, length, Result, Ok, Err}
use lib.Dec.{ltb}
use Rattle.claim.specs.Internal.{taken, claim_of}
use Rattle.refusal.specs.declared.Refusal.{Refusal}
use Rattle.refusal.specs.declared.Refusal.TheVariants.{SpanOutside, SpanTaken}

abbrev by_tests : Bool → Bool → Result Unit Refusal
by_tests past met = cond past (Err SpanOutside) (cond met (Err SpanTaken) (Ok tt))

passes : (past met : Bool) (done : Unit) → by_tests past met ≡ Ok done → (past ≡ false) × (met ≡ false)
passes true met done e = absurd (cc)
passes false true done e = absurd (cc)
passes false false done e = (refl, refl)

decides : {A : Type 0} (refuse : Refusal → A) (go : A) (past met : Bool) (why : Refusal) → by_tests past met ≡ Err why → refuse why ≡ cond past (refuse SpanOutside) (cond met (refuse SpanTaken) go)
decides refuse go true met why e = cc
decides refuse go false true why e = cc
decides refuse go false false why e = cc

module _ (marks : List ℕ) (at width : ℕ) where
  pub claimed : (done : Unit) → claim_of marks at width ≡ Ok done → (ltb (length marks) (at + width) ≡ false) × (taken width marks at ≡ false)
  unfolding claim_of
  claimed done e = passes (ltb (length marks) (at + width)) (taken width marks at) done e

  pub refused : {A : Type 0} (refuse : Refusal → A) (go : A) (why : Refusal) → claim_of marks at width ≡ Err why → refuse why ≡ cond (ltb (length marks) (at + width)) (refuse SpanOutside) (cond (taken width marks at) (refuse SpanTaken) go)
  unfolding claim_of
  refused refuse go why e = decides refuse go (ltb (length marks) (at + width)) (taken width marks at) why e
