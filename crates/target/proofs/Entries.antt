-- The laws of a record whose target is in a segment of the module.
--     target_counted   the segment counts from 1
--     entry_found, entry_lost   where an ordinal is named, what it stands for decides
-- Assumes nothing.
use Rattle.std.proofs.Common.{◌≡◌, List, ℕ, ◌%◌, Result, Ok, Err}
use Rattle.refusal.specs.declared.Refusal.{Refusal}
use Rattle.header.specs.declared.Header.{Header}
use Rattle.header.proofs.Numbered.{has}
use Rattle.fixup.specs.declared.Record.{Record}
use Rattle.fixup.specs.declared.Target.{Target}
use Rattle.fixup.specs.declared.Target.TheVariants.{Segment}
use Rattle.fixup.specs.Target.{internal_target, target_of}
use Rattle.bundle.specs.declared.Entry.{Entry}
use Rattle.entry.specs.Ordinal.{ordinal_in}
use Rattle.refusal.specs.declared.Refusal.TheVariants.{TargetOrdinal}
use Rattle.fixup.proofs.Targets.{target_cases}
use Rattle.target.specs.Internal.{Counted}

abbrev CountedIn : Result Target Refusal → Type 0
CountedIn (Ok t) = Counted t
CountedIn (Err why) = Unit

pub target_counted : (image : List ℕ) (h : Header) (r : Record) (t : Target) → target_of image h r ≡ Ok t → Counted t
target_counted image h r t e = rw e at (target_cases image h r CountedIn (λ segment offset lacked. (has _ _ lacked).0) tt tt (λ why reason. tt))

module _ (image : List ℕ) (h : Header) (r : Record) (is : r.first % 256 ≡ 255) where
  pub entry_found : (e : Entry) → ordinal_in image h r.last ≡ Ok e → internal_target image h r ≡ Ok (Segment e.segment e.offset)
  unfolding internal_target
  entry_found e found = rw (is, found)

  pub entry_lost : (why : Refusal) → ordinal_in image h r.last ≡ Err why → internal_target image h r ≡ Err TargetOrdinal
  unfolding internal_target
  entry_lost why lost = rw (is, lost)
