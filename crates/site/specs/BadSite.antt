-- A record's bad site, in words about the stored bytes.
use Rattle.std.specs.Prelude.{◌≡◌, true, List, [], ◌∷◌, ◌++◌, map, ℕ}
use Rattle.le.specs.Number.{word_at}
use Rattle.lists.specs.Lists.{All, Pairs}
use Rattle.refusal.specs.declared.Refusal.{Refusal}
use Rattle.refusal.specs.declared.Refusal.TheVariants.{SpanOutside, SpanTaken}
use Rattle.site.specs.Site.{Site, site_of, Inside, Apart}
use Rattle.site.specs.declared.Fixup.{Fixup}

-- "at each site 24, 25": why a site is refused behind earlier ones.
pub data Bad (stored : List ℕ) (earlier : List Site) (s : Site) : Refusal → Type 0 where
  -- "24: span outside the stored bytes".
  outside : (Inside stored s → ⊥) → Bad stored earlier s SpanOutside
  -- "25: span meets an earlier one".
  taken : Inside stored s → (All (λ t. Apart t s) earlier → ⊥) → Bad stored earlier s SpanTaken

-- The places of a chain from one on, up to a place to which they lead: "the word at a site is the next site, and FFFFh ends the
-- chain."
pub data Leads (stored : List ℕ) : ℕ → List ℕ → ℕ → Type 0 where
  here : (at : ℕ) → Leads stored at [] at
  next : (at : ℕ) {places : List ℕ} {to : ℕ} → (word_at stored at ≡ 0xffff → ⊥) → Leads stored (word_at stored at) places to → Leads stored at (at ∷ places) to

-- The first bad site of a record, behind the sites of the records before it.
pub record BadSite (stored : List ℕ) (earlier : List Site) (f : Fixup) (why : Refusal) : Type 0 where
  -- The record's own sites before it lead there. "Additive: the one site."
  pub places : List ℕ
  pub at : ℕ
  pub leads : Leads stored f.site places at
  pub single : f.additive ≡ true → places ≡ []
  -- All sites before it are sound.
  pub inside : All (Inside stored) (earlier ++ map (site_of f) places)
  pub apart : Pairs Apart (earlier ++ map (site_of f) places)
  pub bad : Bad stored (earlier ++ map (site_of f) places) (site_of f at) why
