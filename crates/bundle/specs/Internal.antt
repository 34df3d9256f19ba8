-- What serves proofs alone: the head of a bundle, for whoever knows that the table is sound, and what is known of a bundle that
-- passed its checks.
use Rattle.std.specs.Prelude.{◌≡◌, ℕ, ◌+◌, ◌*◌, ◌≤◌, ◌<◌, List, length}
use Rattle.le.specs.Number.{byte_at}
use Rattle.bundle.specs.declared.Bundle.{Bundle}
use Rattle.bundle.specs.declared.Head.{Head}
use Rattle.bundle.specs.Bundle.{width_of, bundle_at}

-- "bundles of a count byte and a segment byte": these two at a place of the table.
unfoldable pub head_of : List ℕ → ℕ → Head
head_of table at = record { count = byte_at table at; segment = byte_at table (at + 1) }

-- What a step that goes on says: the bundle is the one that stands there, and its checks passed.
pub record Went (table : List ℕ) (at used : ℕ) (b : Bundle) : Type 0 where
  pub is : b ≡ bundle_at table at used
  pub base : b.used ≡ used
  pub some : 0 < b.count
  pub few : b.used + b.count ≤ 65535
  pub on : at + 2 ≤ b.at
  pub room : b.at ≤ b.end
  pub size : b.end ≡ b.at + width_of b.kind * b.count
  pub end : b.end ≤ length table
