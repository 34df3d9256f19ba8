-- When the sites of a segment are sound, in words about the stored bytes and not about how they are gone over.
use Rattle.std.specs.Prelude.{◌≡◌, true, false, List, [], ◌∷◌, ◌++◌, map, ℕ, suc, ◌+◌, length, Result, Ok, Err, Option, Some, None}
use Rattle.le.specs.Number.{word_at}
use Rattle.lists.specs.Lists.{All, Pairs}
use Rattle.refusal.specs.declared.Refusal.{Refusal}
use Rattle.site.specs.Site.{Site, site_of, Inside, Apart}
use Rattle.site.specs.declared.Fixup.{Fixup}

-- A chain from a place on that ends, and the places of its sites: "the word at a site is the next site, and FFFFh ends the
-- chain."
pub data Chain (stored : List ℕ) : ℕ → List ℕ → Type 0 where
  last : (at : ℕ) → word_at stored at ≡ 0xffff → Chain stored at (at ∷ [])
  next : (at : ℕ) {places : List ℕ} → (word_at stored at ≡ 0xffff → ⊥) → Chain stored (word_at stored at) places → Chain stored at (at ∷ places)

-- The sites of all records, of which every chain ends.
pub data Sites (stored : List ℕ) : List (Result (Option Fixup) Refusal) → List Site → Type 0 where
  none : Sites stored [] []
  -- "An OS fixup changes no byte and has no site".
  os : {rest : List (Result (Option Fixup) Refusal)} {sites : List Site} → Sites stored rest sites → Sites stored (Ok None ∷ rest) sites
  -- A record that is refused has none either.
  refused : (why : Refusal) {rest : List (Result (Option Fixup) Refusal)} {sites : List Site} → Sites stored rest sites → Sites stored (Err why ∷ rest) sites
  -- "Additive: the one site."
  single : (f : Fixup) {rest : List (Result (Option Fixup) Refusal)} {sites : List Site} → f.additive ≡ true → Sites stored rest sites → Sites stored (Ok (Some f) ∷ rest) (site_of f f.site ∷ sites)
  -- "The chain is read from the stored bytes and starts at the site word."
  chain : (f : Fixup) {places : List ℕ} {rest : List (Result (Option Fixup) Refusal)} {sites : List Site} → f.additive ≡ false → Chain stored f.site places → Sites stored rest sites → Sites stored (Ok (Some f) ∷ rest) (map (site_of f) places ++ sites)

-- That a record is known good: its type is known and its target resolves, or it is an OS fixup.
abbrev pub Resolved : Result (Option Fixup) Refusal → Type 0
Resolved a = (why : Refusal) → a ≡ Err why → ⊥

-- "Every span lies in the stored bytes; all spans of all records are disjoint, inside one chain too."
pub record Sound (stored : List ℕ) (actions : List (Result (Option Fixup) Refusal)) : Type 0 where
  pub resolved : All Resolved actions
  pub sites : List Site
  pub theirs : Sites stored actions sites
  pub inside : All (Inside stored) sites
  pub apart : Pairs Apart sites

-- "summed over the records, 0 for an OS fixup, else 1 if additive, else its chain's sites": the sites in the stored chains, and
-- the single additive ones.
abbrev pub in_chains : {stored : List ℕ} {actions : List (Result (Option Fixup) Refusal)} {sites : List Site} → Sites stored actions sites → ℕ
in_chains none = 0
in_chains (os rest) = in_chains rest
in_chains (refused why rest) = in_chains rest
in_chains (single f additive rest) = in_chains rest
in_chains (chain f {places} chained c rest) = length places + in_chains rest

abbrev pub singles : {stored : List ℕ} {actions : List (Result (Option Fixup) Refusal)} {sites : List Site} → Sites stored actions sites → ℕ
singles none = 0
singles (os rest) = singles rest
singles (refused why rest) = singles rest
singles (single f additive rest) = suc (singles rest)
singles (chain f chained c rest) = singles rest
