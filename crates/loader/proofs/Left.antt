-- What a pass over the records leaves is what the outcome of preparing says.
--     none_left       without records
--     accepted_left   the pass was accepted
--     refused_left    it was refused
-- Assumes nothing.
use Rattle.std.specs.Prelude.{Result, Ok, Err}
use mathlib.Core.Path.{◌≡◌, refl, ap, ◌∙◌}
use mathlib.Core.List.{List, [], ◌++◌}
use Prim.Native.Nat.{ℕ, ◌-◌, ◌≤◌}
use native.Mathlib.Omega.{arith}
use lib.ListN.{length, take, drop, length-take, length-drop}
use Rattle.le.specs.Slice.{zeros}
use Rattle.checks.proofs.Impossible.{never}
use Rattle.header.specs.declared.Header.{Header}
use Rattle.segment.specs.declared.Segment.{Segment}
use Rattle.lists.specs.Lists.{All, Pairs}
use Rattle.site.specs.Site.{Site, Inside, Apart}
use Rattle.site.specs.Prepared.{unfixed, prepared, marked}
use Rattle.site.specs.Walk.{Walk, Walked, Stopped, walk_from, walk_of}
use Rattle.site.proofs.Accept.{accepted_sound}
use Rattle.site.proofs.Bytes.{exactly, prepared_front, marked_front}
use Rattle.follow.proofs.Walks.{marks_of, written_of}
use Rattle.prepare.specs.Prepare.{Outcome, request_of, outcome_of}
use Rattle.prepare.specs.declared.Rejection.{Rejection}
use Rattle.loader.specs.Fits.{Fits}
use Rattle.loader.specs.Internal.{Run, ran, run_from, actions_in, Lent, Leaves, outcome_in}
use Rattle.loader.proofs.Filled.{zeros_front, zeros_behind}
use Rattle.loader.proofs.Walks.{Runs, runs}

module _ (image : List ℕ) (h : Header) (s : Segment) (selectors answers output marks : List ℕ) (fits : Fits image h s answers) (lent : Lent s output marks) where
  abbrev pub stored_in : List ℕ
  stored_in = take s.stored (drop s.start image)

  pub stored_size : length stored_in ≡ s.stored
  stored_size = omega (arith, fits.stored, length-take s.stored (drop s.start image), length-drop s.start image)

  abbrev outcome : Walk → Outcome
  outcome w = outcome_of (request_of image 0 selectors answers 0 (length marks)) s w

  abbrev walk : Walk
  walk = walk_of stored_in (actions_in image h s selectors answers)

  room : length stored_in ≤ s.allocation
  room = omega (arith, stored_size, fits.allocation)

  -- The output with all sites written, and the marks of all sites.
  output_left : (sites : List Site) → All (Inside stored_in) sites → Pairs Apart sites → unfixed (written_of stored_in sites) s.allocation ++ drop s.allocation output ≡ prepared stored_in s.allocation sites ++ drop (length (prepared stored_in s.allocation sites)) output
  output_left sites inside apart = rw (prepared_front stored_in s.allocation sites inside, (exactly stored_in s.allocation room sites inside apart).size)

  marks_left : (sites : List Site) → All (Inside stored_in) sites → marks_of stored_in sites ++ drop (length stored_in) marks ≡ marked (length marks) sites
  marks_left sites inside =
      let few : length stored_in ≤ length marks = omega (arith, stored_size, lent.marks_fit) in
      let behind : drop (length stored_in) marks ≡ zeros (length marks - length stored_in) = ap (drop (length stored_in)) lent.unmarked ∙ zeros_behind (length stored_in) (length marks) in
      rw behind (marked_front (length stored_in) (length marks) sites few inside)

  pub none_left : s.records ≡ 0 → Leaves (outcome_in image h s selectors answers marks) (Ok 0) output (unfixed stored_in s.allocation ++ drop s.allocation output) marks marks
  unfolding walk_from
  none_left none = rw none (record { answer_is = refl; output_is = output_left [] tt tt; marks_are = lent.unmarked })

  -- What the pass gave, started with no mark on the stored bytes.
  module _ (marked' written : List ℕ) where
    abbrev pub Gave : Result ℕ Rejection → Type 0
    Gave answer = ran answer marked' written ≡ run_from stored_in (actions_in image h s selectors answers) 1 0 (take (length stored_in) marks) stored_in

    from_zeros : take (length stored_in) marks ≡ zeros (length stored_in)
    from_zeros =
        let few : length stored_in ≤ length marks = omega (arith, stored_size, lent.marks_fit) in
        ap (take (length stored_in)) lent.unmarked ∙ zeros_front (length stored_in) (length marks) few

    ties : (answer : Result ℕ Rejection) → Gave answer → (w : Walk) → walk ≡ w → Runs stored_in w (ran answer marked' written)
    ties answer gave w e = rw (← e, gave, from_zeros) (runs stored_in (actions_in image h s selectors answers))

    pub accepted_left : (count : ℕ) → Gave (Ok count) → Leaves (outcome_in image h s selectors answers marks) (Ok count) output (unfixed written s.allocation ++ drop s.allocation output) marks (marked' ++ drop (length stored_in) marks)
    accepted_left count gave = go walk refl (ties (Ok count) gave walk refl)
      where
        parts : (sites : List Site) → ran (Ok count) marked' written ≡ ran (Ok (length sites)) (marks_of stored_in sites) (written_of stored_in sites) → (count ≡ length sites) × (marked' ≡ marks_of stored_in sites) × (written ≡ written_of stored_in sites)
        parts sites e =
            let answer : Ok count ≡ Ok (length sites) = ap (λ (r : Run). r.answer) e in
            (cc, ap (λ (r : Run). r.marks) e, ap (λ (r : Run). r.bytes) e)

        go : (w : Walk) → walk ≡ w → Runs stored_in w (ran (Ok count) marked' written) → Leaves (outcome w) (Ok count) output (unfixed written s.allocation ++ drop s.allocation output) marks (marked' ++ drop (length stored_in) marks)
        go (Walked sites) e t =
            let a = accepted_sound stored_in (actions_in image h s selectors answers) sites e in
            let inside = rw (← a.1) at a.0.inside in
            let apart = rw (← a.1) at a.0.apart in
            let p = parts sites t in
            record { answer_is = ap Ok p.0; output_is = rw p.2 (output_left sites inside apart); marks_are = rw p.1 (marks_left sites inside) }
        go (Stopped why number) e t = never cc

    pub refused_left : (r : Rejection) → Gave (Err r) → Leaves (outcome_in image h s selectors answers marks) (Err r) output output marks (zeros (length marks))
    refused_left r gave = go walk (ties (Err r) gave walk refl)
      where
        go : (w : Walk) → Runs stored_in w (ran (Err r) marked' written) → Leaves (outcome w) (Err r) output output marks (zeros (length marks))
        go (Walked sites) t = let answer : Err r ≡ Ok (length sites) = ap (λ (r : Run). r.answer) t in never cc
        go (Stopped reason at) t = record { answer_is = t; output_is = refl; marks_are = refl }
