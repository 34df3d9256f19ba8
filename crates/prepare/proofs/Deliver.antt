-- Demands 2 and 3: what an accepted segment is.
--     delivered        the bytes, the output, the marks, the site count and every order of the records
--     delivered_whole  all of it, from acceptance alone
-- Assumes nothing.
use mathlib.Core.Path.{◌≡◌, sym, ◌∙◌}
use mathlib.Core.List.{List, ◌++◌}
use Prim.Native.Nat.{ℕ, ◌+◌, ◌-◌, ◌≤◌}
use native.Mathlib.Omega.{arith}
use lib.ListN.{length, drop, length-append, length-drop, get_or-append}
use lib.Seq.{get_or-append-add, get_or-drop}
use Rattle.le.specs.Number.{byte_at}
use Rattle.lists.proofs.All.{all_map}
use Rattle.header.specs.declared.Header.{Header}
use Rattle.segment.specs.declared.Segment.{Segment}
use Rattle.site.specs.Site.{Site, end_of, Inside}
use Rattle.site.specs.Prepared.{prepared, marked}
use Rattle.site.specs.Walk.{Walked}
use Rattle.site.proofs.Bytes as bytes_laws
use Rattle.site.proofs.Written.{all_stand}
use Rattle.site.proofs.Count.{counted}
use Rattle.site.proofs.Spans.{sites_few}
use Rattle.prepare.specs.Prepare.{Request, Prepared, stored_of, outcome_of, prepare_of}
use Rattle.prepare.specs.Sound.{Ready, Sound}
use Rattle.prepare.specs.Delivered.{Delivered, Holds}
use Rattle.prepare.specs.Step.{EveryOrder}
use Rattle.prepare.proofs.Ready.{is_walked, was_ready}
use Rattle.prepare.proofs.Accept.{stored_length, stored_fits, made}
use Rattle.prepare.proofs.Order.{every_order}

same_parts : {n n' : ℕ} {b b' m m' : List ℕ} → Prepared n b m ≡ Prepared n' b' m' → (n ≡ n') × (b ≡ b') × (m ≡ m')
same_parts e = (cc, cc, cc)

-- The output, whatever stood in it before.
holds : (allocation : ℕ) (bytes before : List ℕ) → length bytes ≡ allocation → allocation ≤ length before → Holds allocation bytes before (bytes ++ drop (length bytes) before)
holds allocation bytes before size room =
    record {
      size = omega (arith, length-append bytes (drop (length bytes) before), length-drop (length bytes) before);
      segment = λ place k. get_or-append bytes (drop (length bytes) before) 0 place (omega arith);
      behind = behind;
    }
  where
    behind : (place : ℕ) → allocation ≤ place → byte_at (bytes ++ drop (length bytes) before) place ≡ byte_at before place
    behind place k =
        let on : length bytes + (place - length bytes) ≡ place = omega arith in
        let tail = get_or-append-add bytes (drop (length bytes) before) (place - length bytes) 0 ∙ get_or-drop (length bytes) before (place - length bytes) 0 in
        rw on at tail

module _ (q : Request) (h : Header) (s : Segment) (ready : Ready q h s) where
  from_sound : (sound : Sound q h s) → EveryOrder q s (prepared (stored_of q s) s.allocation sound.sites) → Delivered q h s (length sound.sites) (prepared (stored_of q s) s.allocation sound.sites) (marked q.marks sound.sites)
  from_sound sound order =
      let exact = bytes_laws.exactly (stored_of q s) s.allocation (stored_fits q h s ready) sound.sites sound.inside sound.apart in
      let few = sites_few (stored_of q s) sound.sites sound.inside sound.apart in
      record {
        sound = sound;
        exact = exact;
        stands = all_stand (stored_of q s) s.allocation sound.sites _ exact;
        output = λ before long. holds s.allocation _ before exact.size (omega (arith, ready.output));
        marked = bytes_laws.marked_exactly q.marks sound.sites (all_map (Inside (stored_of q s)) (λ x. end_of x ≤ q.marks) room sound.sites sound.inside) sound.apart;
        sum = counted sound.chains;
        bound = omega (arith, stored_length q h s ready);
        order = order;
      }
    where
      room : (x : Site) → Inside (stored_of q s) x → end_of x ≤ q.marks
      room x k = omega (arith, stored_length q h s ready, ready.marks)

  pub delivered : {count : ℕ} {bytes marks : List ℕ} → prepare_of q ≡ Prepared count bytes marks → Delivered q h s count bytes marks
  delivered {count} {bytes} {marks} e =
      let m = made q h s ready count bytes marks (sym (is_walked q h s ready) ∙ e) in
      go m.0 m.1 (every_order q h s ready e)
    where
      go : (sound : Sound q h s) → Prepared count bytes marks ≡ outcome_of q s (Walked sound.sites) → EveryOrder q s bytes → Delivered q h s count bytes marks
      go sound is order =
          let part = same_parts is in
          rw (part.0, part.1, part.2) (from_sound sound (rw part.1 at order))

-- Whatever is accepted was ready, and is delivered as demands 2 and 3 say.
pub delivered_whole : (q : Request) {count : ℕ} {bytes marks : List ℕ} → prepare_of q ≡ Prepared count bytes marks → (h : Header) × (s : Segment) × Ready q h s × Delivered q h s count bytes marks
delivered_whole q {count} {bytes} {marks} e =
    let w = was_ready q count bytes marks e in
    (w.0, w.1, w.2, delivered q w.0 w.1 w.2 e)
