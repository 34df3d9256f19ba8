-- The laws of an accepted resource.
--     number_accepted   found by its number, its data lie in the image
--     words_accepted    found by its words, its data lie in the image, and it has these words
-- Assumes nothing.
use Rattle.std.specs.Prelude.{Result, Ok, Err}
use mathlib.Core.Path.{◌≡◌}
use mathlib.Core.Bool.{true}
use mathlib.Core.List.{List}
use Prim.Native.Nat.{ℕ, ◌+◌, ◌≤◌}
use native.Mathlib.Omega.{arith}
use borrow.Author.Tests.{ltb-false, eqb-true}
use lib.ListN.{length}
use Rattle.refusal.specs.declared.Refusal.{Refusal}
use Rattle.refusal.specs.declared.Refusal.TheVariants.{NoSuchNumber, NoSuchResource}
use Rattle.checks.proofs.Impossible.{never}
use Rattle.tables.specs.Query.{numbered, first_of}
use Rattle.lists.proofs.All.{all_of}
use Rattle.tables.proofs.Query.{first_holds, numbered_holds}
use Rattle.header.proofs.Bounds as header-bounds
use Rattle.resources.specs.Resource.{data_checked, asked, has_kind_and_id, resource_by_number, resource_by_words}
use Rattle.resources.specs.InImage.{InImage}
use Rattle.resources.specs.declared.Resource.{Resource}

checked : (len : ℕ) (x r : Resource) → data_checked len x ≡ Ok r → (r ≡ x) × (x.at + x.len ≤ len)
unfolding data_checked
checked len x r e = grind (arith, ltb-false)

-- What holds of every answer that a query gives to a list holds of what was asked.
from_query : (image : List ℕ) (query : List Resource → Result Resource Refusal) (r : Resource) (P : Type 0) → asked image query ≡ Ok r → ((rs : List Resource) → query rs ≡ Ok r → P) → (length image ≤ 16777216) × P
from_query image query r P e holds = grind (arith, header-bounds.accepted)

pub number_accepted : (image : List ℕ) (number : ℕ) (r : Resource) → resource_by_number image number ≡ Ok r → InImage image r
unfolding resource_by_number
number_accepted image number r e =
    let both = from_query image (numbered number (data_checked (length image)) (Err NoSuchNumber)) r (r.at + r.len ≤ length image) e in_list in
    record { inside = both.1; size = both.0 }
  where
    in_list : (rs : List Resource) → numbered number (data_checked (length image)) (Err NoSuchNumber) rs ≡ Ok r → r.at + r.len ≤ length image
    in_list rs = numbered_holds (data_checked (length image)) number (Err NoSuchNumber) (λ (a : Result Resource Refusal). a ≡ Ok r → r.at + r.len ≤ length image) rs (λ q. never cc) (λ x q. let c = checked (length image) x r q in rw c.0 c.1)

-- A resource that is taken has the words.
has_words : (kind id : ℕ) (r : Resource) → has_kind_and_id kind id r ≡ true → (r.kind ≡ kind) × (r.id ≡ id)
has_words kind id r e = grind (arith, eqb-true)

pub words_accepted : (image : List ℕ) (kind id : ℕ) (r : Resource) → resource_by_words image kind id ≡ Ok r → InImage image r × (r.kind ≡ kind) × (r.id ≡ id)
unfolding resource_by_words
words_accepted image kind id r e =
    let all = from_query image (first_of (has_kind_and_id kind id) (data_checked (length image)) (Err NoSuchResource)) r ((r.at + r.len ≤ length image) × (r.kind ≡ kind) × (r.id ≡ id)) e in_list in
    (record { inside = all.1.0; size = all.0 }, all.1.1, all.1.2)
  where
    in_list : (rs : List Resource) → first_of (has_kind_and_id kind id) (data_checked (length image)) (Err NoSuchResource) rs ≡ Ok r → (r.at + r.len ≤ length image) × (r.kind ≡ kind) × (r.id ≡ id)
    in_list rs = first_holds (data_checked (length image)) (has_kind_and_id kind id) (Err NoSuchResource) (λ (x : Resource). Unit) (λ (a : Result Resource Refusal). a ≡ Ok r → (r.at + r.len ≤ length image) × (r.kind ≡ kind) × (r.id ≡ id)) rs (all_of (λ (x : Resource). Unit) (λ x. tt) rs) (λ q. never cc) (λ x u t q. let c = checked (length image) x r q in let w = has_words kind id x t in (rw c.0 c.1, rw c.0 w.0, rw c.0 w.1))
