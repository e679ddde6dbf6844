-- The walk along a path's text: what is left to answer stays the same. Assumes nothing.
use Prim.Native.Nat.{ℕ, zero, suc, ◌+◌, ◌<◌}
use mathlib.Core.Path.{◌≡◌, refl, sym, ap, ◌∙◌}
use mathlib.Core.Bool.{Bool, true, false, ◌&&◌, and_assoc, and-true}
use mathlib.Core.List.{List, [], ◌∷◌}
use native.Mathlib.Omega.{arith}
use lib.Ieee.{Float}
use lib.ListN.{length, drop}
use Rattle.std.proofs.Common.{Some}
use Rattle.float.specs.Answer.{Answer, ok, refused, ◌>>=◌}
use Rattle.plane.specs.Plane.{equal}
use Rattle.plane.specs.declared.Point.{Point}
use Rattle.plane.specs.declared.Curve.{Curve}
use Rattle.path.specs.Range.{no_path}
use Rattle.path.specs.Grammar as grammar
use Rattle.path.specs.Grammar.{Segment, line, curve, step, Drawing, drawing, then, draws}
use Rattle.path.specs.declared.Letter.{Letter}
use Rattle.marks.specs.Line.{line_of}
use Rattle.path.specs.Curves.{segment_small, segments_small, closing, curve_from, curves_from}
use Rattle.import.specs.Drawn.{capped_segment, Bent, bent, drawn, closed, ended, next_answer, step_answer, Marked}
use Rattle.import.specs.Walk.{placed, filled, capped_segments, draws_of, Done, left, left_answer, Closes}
use Rattle.import.specs.declared.Drawn.{Drawn}
use Rattle.import.specs.declared.Step.{Step}
use Rattle.import.specs.declared.Step.TheVariants as steps
use Rattle.import.proofs.Shorter.{ShorterStep, step_shorter}

-- ---- a bound above the length is none

then_same : (s : List ℕ) (f g : Letter → List ℕ → Answer Drawing) (a : Answer grammar.Step) → ShorterStep s a → ((l : Letter) (t : List ℕ) → length t < length s → f l t ≡ g l t) → ◌>>=◌ a (then f) ≡ ◌>>=◌ a (then g)
then_same s f g (ok (grammar.drawn l x rest)) h k = rw (k l rest h) refl
then_same s f g (ok grammar.closed) h k = refl
then_same s f g (ok grammar.ended) h k = refl
then_same s f g (refused q) h k = refl

pub any_bound : (f g : ℕ) (l : Letter) (s : List ℕ) → length s < f → length s < g → draws f l s ≡ draws g l s
unfolding draws
any_bound zero g l s h k = absurd (omega arith)
any_bound (suc f) zero l s h k = absurd (omega arith)
any_bound (suc f) (suc g) l s h k = then_same s (draws f) (draws g) (step l s) (step_shorter l s) (λ m t w. any_bound f g m t (omega arith) (omega arith))

draws-step : (l : Letter) (s : List ℕ) → draws_of l s ≡ ◌>>=◌ (step l s) (then draws_of)
unfolding draws
draws-step l s = then_same s (draws (length s)) draws_of (step l s) (step_shorter l s) (λ m t w. any_bound (length s) (suc (length t)) m t w (omega arith))

-- ---- what a step answers

pub record Drew (p : Point) (a : Answer grammar.Step) (l : Letter) (b : Bent) (t : List ℕ) : Type 0 where
  pub segment : Segment
  pub found : a ≡ ok (grammar.drawn l segment t)
  pub is : b ≡ bent p segment

drew : (p : Point) (a : Answer grammar.Step) {l : Letter} {b : Bent} {t : List ℕ} → ok (drawn l b t) ≡ next_answer p a → Drew p a l b t
drew p (ok (grammar.drawn m g s)) {l} {b} {t} h =
    let i : l ≡ m = cc in
    let j : t ≡ s = cc in
    record { segment = g; found = rw (i, j) refl; is = cc }
drew p (ok grammar.closed) h = let n : ◌≡◌ {A = ℕ} 0 1 = cc in absurd (omega arith)
drew p (ok grammar.ended) h = let n : ◌≡◌ {A = ℕ} 0 1 = cc in absurd (omega arith)
drew p (refused q) h = let n : ◌≡◌ {A = ℕ} 0 1 = cc in absurd (omega arith)

was_closed : (p : Point) (a : Answer grammar.Step) → ok closed ≡ next_answer p a → a ≡ ok grammar.closed
was_closed p (ok (grammar.drawn m g s)) h = let n : ◌≡◌ {A = ℕ} 0 1 = cc in absurd (omega arith)
was_closed p (ok grammar.closed) h = refl
was_closed p (ok grammar.ended) h = let n : ◌≡◌ {A = ℕ} 0 1 = cc in absurd (omega arith)
was_closed p (refused q) h = let n : ◌≡◌ {A = ℕ} 0 1 = cc in absurd (omega arith)

was_ended : (p : Point) (a : Answer grammar.Step) → ok ended ≡ next_answer p a → a ≡ ok grammar.ended
was_ended p (ok (grammar.drawn m g s)) h = let n : ◌≡◌ {A = ℕ} 0 1 = cc in absurd (omega arith)
was_ended p (ok grammar.closed) h = let n : ◌≡◌ {A = ℕ} 0 1 = cc in absurd (omega arith)
was_ended p (ok grammar.ended) h = refl
was_ended p (refused q) h = let n : ◌≡◌ {A = ℕ} 0 1 = cc in absurd (omega arith)

was_refused : (p : Point) (a : Answer grammar.Step) → refused no_path ≡ next_answer p a → a ≡ refused no_path
was_refused p (ok s) h = let n : ◌≡◌ {A = ℕ} 0 1 = cc in absurd (omega arith)
was_refused p (refused q) h = cc

-- ---- what is left

done_same : {k k' : ℕ} {z : Bool} {s s' : Bool} {C : List Float} → k ≡ k' → s ≡ s' → ◌≡◌ {A = Done} (record { count = k; closed = z; small = s; out = C }) (record { count = k'; closed = z; small = s'; out = C })
done_same e h = cc

module _ (m p : Point) (k : ℕ) (s : Bool) (C : List Float) where
  -- one curve further
  turned : (g : Segment) (d : Answer Drawing) → left_answer m p k s C (◌>>=◌ d (λ d. ok (drawing (g ∷ d.segments) d.closed))) ≡ left_answer m (bent p g).curve.end (k + 1) (s && (bent p g).small) (placed C k (bent p g).curve) d
  unfolding left bent curves_from capped_segments segments_small filled
  turned g (ok d) = ap ok (done_same (omega arith) (sym (and_assoc s (segment_small g) (segments_small d.segments))))
  turned g (refused q) = refl

  left_open : left m p k s C (drawing [] false) ≡ record { count = k; closed = false; small = s; out = C }
  unfolding left curves_from capped_segments segments_small filled closing
  left_open = done_same (omega arith) (and-true s)

  left_closed : left m p k s C (drawing [] true) ≡ record { count = k + length (closing true m p); closed = true; small = s; out = filled C k (closing true m p) }
  unfolding left curves_from capped_segments segments_small
  left_closed = done_same refl (and-true s)

-- Z
module _ (m p : Point) (k : ℕ) (C : List Float) where
  pub closes_there : equal p m ≡ true → Closes m p k C k C
  unfolding closing filled
  closes_there h = record { count = rw h (omega arith); out = rw h refl }

  pub closes_line : {c : Curve} {D : List Float} → equal p m ≡ false → c ≡ (line_of p m).val → D ≡ placed C k c → Closes m p k C (k + 1) D
  unfolding closing filled
  closes_line h e f = record { count = rw h refl; out = rw h (f ∙ ap (placed C k) e) }

-- ---- the loop's turn, and its ways out

end_marked : (p : Point) (g : Segment) → Marked (bent p g).curve.end
unfolding bent capped_segment curve_from line_of
end_marked p (line q) = record { place = q; is = refl }
end_marked p (curve a b c) = record { place = c; is = refl }

module _ (T : List ℕ) (at : ℕ) (l : Letter) (p : Point) (r : Step) (says : step_answer T (Some r) ≡ next_answer p (step l (drop at T))) where
  module _ {by : Letter} {d : Drawn} (e : r ≡ steps.Drawn by d) where
    found : Drew p (step l (drop at T)) by (record { curve = d.curve; small = d.small }) (drop d.rest T)
    found = drew p (step l (drop at T)) (sym (ap (λ r. step_answer T (Some r)) e) ∙ says)

    pub turn_marked : Marked d.curve.end
    turn_marked = rw (ap (λ b. b.curve.end) found.is) (end_marked p found.segment)

    pub turn_shorter : length (drop d.rest T) < length (drop at T)
    turn_shorter = rw found.found at (step_shorter l (drop at T))

    pub turn : {total : Answer Done} (m : Point) (k : ℕ) (s : Bool) (C : List Float) {D : List Float} → total ≡ left_answer m p k s C (draws_of l (drop at T)) → D ≡ placed C k d.curve → total ≡ left_answer m d.curve.end (k + 1) (s && d.small) D (draws_of by (drop d.rest T))
    turn m k s C h f = h ∙ ap (left_answer m p k s C) (draws-step l (drop at T) ∙ ap (λ a. ◌>>=◌ a (then draws_of)) found.found) ∙ turned m p k s C found.segment (draws_of by (drop d.rest T)) ∙ rw (← found.is, f) refl

  module _ {total : Answer Done} (m : Point) (k : ℕ) (s : Bool) (C : List Float) (h : total ≡ left_answer m p k s C (draws_of l (drop at T))) where
    pub turn-closed : {n : ℕ} {D : List Float} → r ≡ steps.Closed → Closes m p k C n D → ok (record { count = n; closed = true; small = s; out = D }) ≡ total
    turn-closed e z =
        rw (z.count, z.out)
        (sym (h ∙ ap (left_answer m p k s C) (draws-step l (drop at T) ∙ ap (λ a. ◌>>=◌ a (then draws_of)) (was_closed p (step l (drop at T)) (sym (ap (λ r. step_answer T (Some r)) e) ∙ says))) ∙ ap ok (left_closed m p k s C)))

    pub turn-ended : r ≡ steps.Ended → ok (record { count = k; closed = false; small = s; out = C }) ≡ total
    turn-ended e =
        sym (h ∙ ap (left_answer m p k s C) (draws-step l (drop at T) ∙ ap (λ a. ◌>>=◌ a (then draws_of)) (was_ended p (step l (drop at T)) (sym (ap (λ r. step_answer T (Some r)) e) ∙ says))) ∙ ap ok (left_open m p k s C))

pub turn-refused : (T : List ℕ) (at : ℕ) (l : Letter) (p : Point) → refused no_path ≡ next_answer p (step l (drop at T)) → {total : Answer Done} (m : Point) (k : ℕ) (s : Bool) (C : List Float) → total ≡ left_answer m p k s C (draws_of l (drop at T)) → refused no_path ≡ total
turn-refused T at l p says m k s C h =
    sym (h ∙ ap (left_answer m p k s C) (draws-step l (drop at T) ∙ ap (λ a. ◌>>=◌ a (then draws_of)) (was_refused p (step l (drop at T)) says)))
