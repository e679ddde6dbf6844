-- A whole path, and what import answers. Assumes nothing.
use Prim.Native.Nat.{ℕ, suc, ◌+◌, ◌*◌, ◌/◌, ◌≤◌, ◌<◌}
use mathlib.Core.Path.{◌≡◌, refl, sym, ap, ◌∙◌}
use mathlib.Core.Bool.{Bool, true, false, ◌&&◌}
use mathlib.Core.List.{List, [], ◌∷◌}
use native.Mathlib.Omega.{arith}
use borrow.Author.Tests.{le-leb, lt-leb, leb-true, eq-eqb, ne_eqb}
use lib.Ieee.{Float}
use lib.ListN.{length, drop, get_or, length-drop}
use Rattle.std.proofs.Common.{Option, Some, None, ok_or}
use Rattle.float.specs.Answer.{Answer, ok, refused, ◌>>=◌}
use Rattle.float.specs.Refusal.{answer}
use Rattle.float.specs.declared.refusal.Refusal.TheVariants.{NoPath}
use Rattle.float.proofs.Truth.{and_left, and_right}
use Rattle.plane.specs.declared.Point.{Point}
use Rattle.path.specs.Decimals.{most, small}
use Rattle.path.specs.Range.{no_path}
use Rattle.path.specs.Numbers.{front, behind, is_space, leading, past}
use Rattle.path.specs.Grammar.{Place, Segment, line, curve, pair, Drawing, Path, path_of}
use Rattle.path.specs.Curves.{place_small, segment_small, segments_small, path_small, point_at, curves_of}
use Rattle.import.specs.Import as import
use Rattle.import.specs.Import.{import_of, read_of, fitting}
use Rattle.path.specs.declared.Decimal.{Decimal}
use Rattle.path.specs.declared.Letter.TheVariants as letters
use Rattle.numerals.specs.Numerals.{cap, capped}
use Rattle.numerals.proofs.Leading.{front_at, behind_at, past_at}
use Rattle.import.specs.declared.Walked.{Walked}
use Rattle.import.specs.Drawn.{capped_place, capped_segment, Standing, standing}
use Rattle.import.specs.Walk.{filled, capped_segments, draws_of, Done, left, left_answer, walked_answer, wholly, wholly_answer, seen, seen_of}
use Rattle.import.proofs.Pieces.{From}
use Rattle.import.proofs.Rooms.{filled-written}
use Rattle.import.proofs.Shorter.{pair_shorter}
use Rattle.import.proofs.Walks.{any_bound}

-- ---- the walk along a whole text

module _ (T : List ℕ) (C : List Float) {k : ℕ} (is : k ≡ 0 + leading is_space (drop 0 T)) {b : ℕ} (byte : b ≡ get_or T k 0) where
  first_is : b ≡ front (past is_space T)
  first_is = byte ∙ sym (front_at T k) ∙ ap front (past_at T 0 is_space is)

  pub path_other : (b ≡ 77 → ⊥) → refused no_path ≡ wholly_answer C (path_of T)
  unfolding path_of
  path_other h = rw (ne_eqb (front (past is_space T)) 77 (λ e. h (first_is ∙ e))) refl

  module _ (m : b ≡ 77) {j : ℕ} (at : j ≡ k + 1 + leading is_space (drop (k + 1) T)) where
    pair_is : drop j T ≡ past is_space (behind (past is_space T))
    pair_is = past_at T (k + 1) is_space at ∙ ap (past is_space) (sym (behind_at T k) ∙ ap behind (past_at T 0 is_space is))

    pub path_no_pair : pair (drop j T) ≡ refused no_path → refused no_path ≡ wholly_answer C (path_of T)
    unfolding path_of
    path_no_pair h = rw (eq-eqb (front (past is_space T)) 77 (sym first_is ∙ m), ← pair_is, h) refl

    within : {s : Standing} {t : List ℕ} → From standing (pair (drop j T)) s t → length t < suc (length T)
    within f =
        let w = rw f.found at (pair_shorter (drop j T)) in
        omega (arith, w, length-drop j T)

    whole : (p : Place) (a : Answer Drawing) → left_answer (point_at (capped_place p)) (point_at (capped_place p)) 0 (place_small p) C a ≡ wholly_answer C (◌>>=◌ a (λ d. ok (record { start = p; segments = d.segments; closed = d.closed })))
    unfolding wholly
    whole p (ok d) = refl
    whole p (refused q) = refl

    pub path-walked : {q : Point} {s : Bool} {t : List ℕ} {a : Answer Done} → From standing (pair (drop j T)) (record { point = q; small = s }) t → a ≡ left_answer q q 0 s C (draws_of letters.Line t) → a ≡ wholly_answer C (path_of T)
    unfolding path_of standing
    path-walked {q} {s} {t} f e =
        let i : q ≡ point_at (capped_place f.value) = ap (λ s. s.point) f.is in
        let o : s ≡ place_small f.value = ap (λ s. s.small) f.is in
        e ∙ rw (i, o) refl ∙ whole f.value (draws_of letters.Line t)
        ∙ rw (eq-eqb (front (past is_space T)) 77 (sym first_is ∙ m), ← pair_is, f.found, any_bound (suc (length t)) (suc (length T)) letters.Line t (omega arith) (within f)) refl

-- ---- without a place to put a curve

pub surveyed : (r : Option Walked) (C D : List Float) (a : Answer Path) → walked_answer r D ≡ wholly_answer C a → answer (ok_or r NoPath) ≡ seen_of a
unfolding wholly left
surveyed (Some w) C D (ok p) h =
    let e : ◌≡◌ {A = Done} (record { count = w.count; closed = w.closed; small = w.small; out = D }) (wholly C p) = cc in
    ap ok (ap seen e)
surveyed (Some w) C D (refused q) h = let n : ◌≡◌ {A = ℕ} 0 1 = cc in absurd (omega arith)
surveyed None C D (ok p) h = let n : ◌≡◌ {A = ℕ} 0 1 = cc in absurd (omega arith)
surveyed None C D (refused q) h = cc

-- ---- small numbers are not capped

same_decimal : (d : Decimal) → small d ≡ true → capped d ≡ d
unfolding small capped
same_decimal d h =
    let m : d.thousandths ≤ most = leb-true d.thousandths most h in
    let e : cap d.thousandths ≡ d.thousandths = omega arith in
    rw e refl

same_place : (p : Place) → place_small p ≡ true → capped_place p ≡ p
unfolding place_small capped_place
same_place p h = rw (same_decimal p.x (and_left (small p.x) (small p.y) h), same_decimal p.y (and_right (small p.x) (small p.y) h)) refl

same_segment : (g : Segment) → segment_small g ≡ true → capped_segment g ≡ g
unfolding segment_small capped_segment
same_segment (line p) h = rw (same_place p h) refl
same_segment (curve a b c) h =
    let k = and_right (place_small a) (place_small b && place_small c) h in
    rw (same_place a (and_left (place_small a) (place_small b && place_small c) h), same_place b (and_left (place_small b) (place_small c) k), same_place c (and_right (place_small b) (place_small c) k)) refl

same_segments : (gs : List Segment) → segments_small gs ≡ true → capped_segments gs ≡ gs
unfolding segments_small capped_segments
same_segments [] h = refl
same_segments (g ∷ gs) h = rw (same_segment g (and_left (segment_small g) (segments_small gs) h), same_segments gs (and_right (segment_small g) (segments_small gs) h)) refl

-- ---- import

-- what is known of a text that the grammar has
record Sees (a : Answer Path) (k : ℕ) (z s : Bool) : Type 0 where
  path : Path
  found : a ≡ ok path
  is : ◌≡◌ {A = Walked} (record { count = k; closed = z; small = s }) (seen (wholly [] path))

sees : (a : Answer Path) {k : ℕ} {z s : Bool} → ok (record { count = k; closed = z; small = s }) ≡ seen_of a → Sees a k z s
sees (ok p) h = record { path = p; found = refl; is = cc }
sees (refused q) h = let n : ◌≡◌ {A = ℕ} 0 1 = cc in absurd (omega arith)

small_is : (p : Path) → (wholly [] p).small ≡ path_small p
unfolding wholly left path_small
small_is p = refl

module _ (p : Path) (h : path_small p ≡ true) where
  whole_is : (C : List Float) → wholly C p ≡ record { count = 0 + length (curves_of p); closed = p.closed; small = path_small p; out = filled C 0 (curves_of p) }
  unfolding wholly left path_small curves_of
  whole_is C = rw (same_place p.start (and_left (place_small p.start) (segments_small p.segments) h), same_segments p.segments (and_right (place_small p.start) (segments_small p.segments) h)) refl

left_out : (r : Option Walked) (D : List Float) (d : Done) → walked_answer r D ≡ ok d → D ≡ d.out
left_out (Some w) D d h =
    let e : ◌≡◌ {A = Done} (record { count = w.count; closed = w.closed; small = w.small; out = D }) d = cc in
    ap (λ d. d.out) e
left_out None D d h = let n : ◌≡◌ {A = ℕ} 0 1 = cc in absurd (omega arith)

module _ (T : List ℕ) (C : List Float) where
  pub none_read : (q : ℕ) → refused q ≡ seen_of (path_of T) → import.left (refused q) C ≡ import_of T C
  unfolding import_of read_of
  none_read q h = go (path_of T) refl h
    where
      go : (a : Answer Path) → path_of T ≡ a → refused q ≡ seen_of a → import.left (refused q) C ≡ import_of T C
      go (ok p) e h = let n : ◌≡◌ {A = ℕ} 0 1 = cc in absurd (omega arith)
      go (refused r) e h = let i : q ≡ r = cc in rw (e, i) refl

  module _ {k : ℕ} {z s : Bool} (h : ok (record { count = k; closed = z; small = s }) ≡ seen_of (path_of T)) where
    pub too_large : s ≡ false → import.left (refused 10) C ≡ import_of T C
    unfolding import_of read_of
    too_large e =
        let w = sees (path_of T) h in
        let l : path_small w.path ≡ false = sym (ap (λ d. d.small) w.is ∙ small_is w.path) ∙ e in
        rw (w.found, l) refl

    module _ (e : s ≡ true) where
      sight : Sees (path_of T) k z s
      sight = sees (path_of T) h

      all_small : path_small sight.path ≡ true
      all_small = sym (ap (λ d. d.small) sight.is ∙ small_is sight.path) ∙ e

      count_is : k ≡ length (curves_of sight.path)
      count_is = ap (λ d. d.count) sight.is ∙ ap (λ d. d.count) (whole_is sight.path all_small []) ∙ omega arith

      closed_is : z ≡ sight.path.closed
      closed_is = ap (λ d. d.closed) sight.is ∙ ap (λ d. d.closed) (whole_is sight.path all_small [])

      pub no_room : length C / 8 < k → import.left (refused 4) C ≡ import_of T C
      unfolding import_of read_of fitting
      no_room l = rw (sight.found, all_small, lt-leb (8 * length (curves_of sight.path)) (length C) (omega (arith, count_is))) refl

      pub imported : {D : List Float} (r : Option Walked) → k ≤ length C / 8 → walked_answer r D ≡ wholly_answer C (path_of T) → import.left (ok (record { count = k; closed = z })) D ≡ import_of T C
      unfolding import_of read_of fitting
      imported {D} r l w =
          let room : 8 * length (curves_of sight.path) ≤ length C = omega (arith, count_is) in
          rw (sight.found, all_small, le-leb (8 * length (curves_of sight.path)) (length C) room, ← count_is, ← closed_is, ← filled-written (curves_of sight.path) C room) (ap (import.left (ok (record { count = k; closed = z }))) out_is)
        where
          out_is : D ≡ filled C 0 (curves_of sight.path)
          out_is = left_out r D (wholly C sight.path) (w ∙ ap (wholly_answer C) sight.found) ∙ ap (λ d. d.out) (whole_is sight.path all_small C)
