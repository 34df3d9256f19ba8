-- The checks of a site, and what they say: its span lies in the stored bytes and shares no byte with an earlier one.
--     one_apart     a span that meets no earlier one is apart from all, and apart_one the other way
--     good_more     a site that passes its checks is good behind the earlier ones
--     site_cases    what the checks decide, by cases
--     checks_pass   a good site passes its checks
-- Assumes nothing.
use Rattle.std.specs.Prelude.{Result, Err}
use mathlib.Core.Path.{◌≡◌, refl}
use mathlib.Core.Bool.{Bool, true, false, ◌&&◌, ◌||◌}
use mathlib.Core.List.{List, [], ◌∷◌, ◌++◌}
use Prim.Native.Nat.{ℕ, ◌<◌, max}
use native.Mathlib.Omega.{arith}
use borrow.Author.Tests.{ltb-true, ltb-false, lt-ltb, le-ltb}
use lib.Dec.{ltb}
use lib.ListN.{length}
use Rattle.checks.proofs.Impossible.{never}
use Rattle.lists.specs.Lists.{All, Pairs}
use Rattle.lists.proofs.All.{all_append, all_back, pairs_append, pairs_across, all_map}
use Rattle.site.specs.Site.{Site, end_of, Inside, Apart}
use Rattle.checks.specs.Checks.{decide}
use Rattle.checks.specs.Internal.{Passed}
use Rattle.checks.proofs.Checks.{tried}
use Rattle.refusal.specs.declared.Refusal.{Refusal}
use Rattle.refusal.specs.declared.Refusal.TheVariants.{SpanOutside, SpanTaken}
use Rattle.site.specs.BadSite.{Bad, outside, taken}
use Rattle.site.specs.Walk.{meets, meets_one, site_checks}
use Rattle.site.proofs.Spans.{wide}

-- A place in two spans is below both ends.
meets_apart : (s t : Site) → meets s t ≡ false → Apart t s
meets_apart s t e p h k =
    let low : s.at < end_of t = omega (arith, h.1, k.0) in
    let high : t.at < end_of s = omega (arith, h.0, k.1) in
    let both : true ≡ false = rw (lt-ltb _ _ low, lt-ltb _ _ high) at e in
    never cc

-- The later one of the two first bytes is in both spans, if any is.
apart_meets : (s t : Site) → Apart t s → meets s t ≡ false
apart_meets s t a = go (ltb s.at (end_of t)) (ltb t.at (end_of s)) refl refl
  where
    go : (low high : Bool) → ltb s.at (end_of t) ≡ low → ltb t.at (end_of s) ≡ high → (low && high) ≡ false
    go false high p q = refl
    go true false p q = refl
    go true true p q =
        let below : s.at < end_of t = ltb-true _ _ p in
        let above : t.at < end_of s = ltb-true _ _ q in
        let own = wide s.fixup.kind s.fixup.additive in
        let other = wide t.fixup.kind t.fixup.additive in
        let place = max s.at t.at in
        absurd (a place (omega arith, omega arith) (omega arith, omega arith))

pub one_apart : (s : Site) (ts : List Site) → meets_one s ts ≡ false → All (λ t. Apart t s) ts
one_apart s [] e = tt
one_apart s (t ∷ ts) e = go (meets s t) refl e (λ q. one_apart s ts q)
  where
    go : (b : Bool) → meets s t ≡ b → (b || meets_one s ts) ≡ false → (meets_one s ts ≡ false → All (λ t. Apart t s) ts) → Apart t s × All (λ t. Apart t s) ts
    go true p q rest = never cc
    go false p q rest = (meets_apart s t p, rest q)

pub apart_one : (s : Site) (ts : List Site) → All (λ t. Apart t s) ts → meets_one s ts ≡ false
apart_one s [] a = refl
apart_one s (t ∷ ts) a = rw (apart_meets s t a.0, apart_one s ts a.1)

-- That sites are good: inside the stored bytes, and no byte in two spans.
abbrev pub Good : List ℕ → List Site → Type 0
Good stored sites = All (Inside stored) sites × Pairs Apart sites

pub good_more : (stored : List ℕ) (earlier : List Site) (s : Site) → Good stored earlier → ltb (length stored) (end_of s) ≡ false → meets_one s earlier ≡ false → Good stored (earlier ++ s ∷ [])
good_more stored earlier s g inside free =
    let with = all_map (λ t. Apart t s) (λ t. All (Apart t) (s ∷ [])) (λ t h. (h, tt)) earlier (one_apart s earlier free) in
    (all_append (Inside stored) earlier (s ∷ []) g.0 (ltb-false _ _ inside, tt), pairs_append Apart earlier (s ∷ []) g.1 (tt, tt) with)

-- What holds of each refusal, and of the answer where the site is good too, holds of what the checks decide.
pub site_cases : (stored : List ℕ) (earlier : List Site) (s : Site) (answer : Result (List Site) Refusal) (P : Result (List Site) Refusal → Type 0) → Good stored earlier → ((why : Refusal) → Bad stored earlier s why → P (Err why)) → (Good stored (earlier ++ s ∷ []) → P answer) → P (decide Err (site_checks stored earlier s) answer)
site_cases stored earlier s answer P g refused good = tried Err P (site_checks stored earlier s) answer (past, λ in-stored. (met (ltb-false _ _ in-stored), λ free. tt)) (λ p. good (good_more stored earlier s g p.0 p.1.0))
  where
    past : ltb (length stored) (end_of s) ≡ true → P (Err SpanOutside)
    past e = refused SpanOutside (outside (λ k. let z : false ≡ true = rw (le-ltb _ _ k) at e in never cc))

    met : Inside stored s → meets_one s earlier ≡ true → P (Err SpanTaken)
    met k e = refused SpanTaken (taken k (λ a. let z : false ≡ true = rw (apart_one s earlier a) at e in never cc))

pub checks_pass : (stored : List ℕ) (earlier : List Site) (s : Site) (rest : List Site) → Good stored (earlier ++ s ∷ rest) → Passed (site_checks stored earlier s)
checks_pass stored earlier s rest g =
    let inside = (all_back (Inside stored) earlier (s ∷ rest) g.0).0 in
    let with = all_map (λ t. All (Apart t) (s ∷ rest)) (λ t. Apart t s) (λ t h. h.0) earlier (pairs_across Apart earlier (s ∷ rest) g.1) in
    (le-ltb (length stored) (end_of s) inside, (apart_one s earlier with, tt))
