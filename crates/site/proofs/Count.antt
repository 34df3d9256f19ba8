-- The number of sites: those in the stored chains and the single additive ones.
-- Assumes nothing.
use Rattle.std.specs.Prelude.{Result, Option}
use mathlib.Core.Path.{◌≡◌, refl}
use mathlib.Core.List.{List, map}
use Prim.Native.Nat.{ℕ, ◌+◌}
use native.Mathlib.Omega.{arith}
use lib.ListN.{length, length-append, length-map}
use Rattle.site.specs.Site.{Site, site_of}
use Rattle.site.specs.Sound.{Sites, none, os, refused, single, chain, in_chains, singles}
use Rattle.refusal.specs.declared.Refusal.{Refusal}
use Rattle.site.specs.declared.Fixup.{Fixup}

pub counted : {stored : List ℕ} {actions : List (Result (Option Fixup) Refusal)} {sites : List Site} (theirs : Sites stored actions sites) → length sites ≡ in_chains theirs + singles theirs
counted none = refl
counted (os rest) = counted rest
counted (refused why rest) = counted rest
counted (single f additive rest) = let e = counted rest in omega arith
counted (chain f {places} {sites = sites} chained c rest) =
    let e = counted rest in
    let mine = length-map places (site_of f) in
    omega (arith, length-append (map (site_of f) places) sites)
