-- What is written over the byte and the word that stand at a site is what the site's definition writes.
-- Assumes nothing.
use Rattle.std.proofs.Common.{◌≡◌, ℕ, List}
use lib.Seq.{sets}
use Rattle.le.specs.Number.{byte_at, word_at}
use Rattle.site.specs.Site.{site_of, written_over, written, put}
use Rattle.site.specs.declared.Fixup.{Fixup}

pub put_is : (bytes : List ℕ) (f : Fixup) (at : ℕ) (before after : List ℕ) (byte word : ℕ) → byte ≡ byte_at bytes at → word ≡ word_at bytes at → after ≡ sets before at (written_over f.kind f byte word) → after ≡ put bytes (site_of f at) before
unfolding written
put_is bytes f at before after byte word b w e = rw (b, w) at e
