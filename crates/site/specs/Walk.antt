-- Document 01: the checks of the sites, record by record. "then records in file order: 22, 23 [...], and at each site 24,
-- 25, 26."
use Rattle.std.specs.Prelude.{ℕ, zero, suc, ◌-◌, Bool, false, cond, ◌&&◌, ◌||◌, List, [], ◌∷◌, ◌++◌, length, ltb, eqb, Result, Ok, Err, Option, Some, None}
use Rattle.le.specs.Number.{word_at}
use Rattle.checks.specs.Checks.{Check, ◌⇒◌, decide}
use Rattle.refusal.specs.declared.Refusal.{Refusal}
use Rattle.refusal.specs.declared.Refusal.TheVariants.{SpanOutside, SpanTaken, SitesOver}
use Rattle.site.specs.Site.{Site, site_of, end_of}
use Rattle.site.specs.declared.Fixup.{Fixup}
use Rattle.checks.specs.Onward.{on_result}

-- Whether two spans share a byte.
abbrev pub meets : Site → Site → Bool
meets s t = ltb s.at (end_of t) && ltb t.at (end_of s)

abbrev pub meets_one : Site → List Site → Bool
meets_one s [] = false
meets_one s (t ∷ ts) = meets s t || meets_one s ts

-- "24: span outside the stored bytes", "25: span meets an earlier one".
abbrev pub site_checks : List ℕ → List Site → Site → List (Check Refusal)
site_checks stored earlier s = (ltb (length stored) (end_of s) ⇒ SpanOutside) ∷ (meets_one s earlier ⇒ SpanTaken) ∷ []

-- Whether a site is the last of its record. "Additive: the one site. Otherwise the word at a site is the next site, and
-- FFFFh ends the chain."
abbrev pub is_last : Fixup → ℕ → Bool
is_last f word = f.additive || eqb word 0xffff

-- What following the sites of a record gives: all sites up to there, or the refusal. They are those of a fixup from a place on,
-- after those of earlier records and places; `left` more may be followed. "26: over 65,536 sites followed". "The chain is read
-- from the stored bytes".
unfoldable pub follow_from : ℕ → List ℕ → Fixup → ℕ → List Site → Result (List Site) Refusal
follow_from zero stored f at earlier = decide Err (site_checks stored earlier (site_of f at)) (Err SitesOver)
follow_from (suc left) stored f at earlier =
    let sites = earlier ++ site_of f at ∷ [] in
    let onward = follow_from left stored f (word_at stored at) sites in
    let answer = cond (is_last f (word_at stored at)) (Ok sites) onward in
    decide Err (site_checks stored earlier (site_of f at)) answer

-- "and starts at the site word."
abbrev pub followed : List ℕ → Fixup → List Site → Result (List Site) Refusal
followed stored f earlier = follow_from (65536 - length earlier) stored f f.site earlier

-- What going over all records gives: all sites, or the refusal and the number of its record.
pub data Walk : Type 0 where
  Walked : List Site → Walk
  Stopped : Refusal → ℕ → Walk

-- The records from the one of a number on, behind the sites of the earlier ones.
unfoldable pub walk_from : List ℕ → List (Result (Option Fixup) Refusal) → ℕ → List Site → Walk
walk_from stored [] number earlier = Walked earlier
walk_from stored (Ok None ∷ rest) number earlier = walk_from stored rest (suc number) earlier
walk_from stored (Err why ∷ rest) number earlier = Stopped why number
walk_from stored (Ok (Some f) ∷ rest) number earlier =
    on_result (followed stored f earlier) (λ why. Stopped why number) λ sites. walk_from stored rest (suc number) sites

-- All records, counted from 1.
abbrev pub walk_of : List ℕ → List (Result (Option Fixup) Refusal) → Walk
walk_of stored actions = walk_from stored actions 1 []
