-- Demand 3: every list that the joined, the ring or the direct fit accepts is sound, with the same marks and tolerance. Assumes nothing.
use mathlib.Core.Path.{◌≡◌, refl, sym, ap, ◌∙◌}
use mathlib.Core.Bool.{Bool, true, false, cond}
use mathlib.Core.List.{List, ◌++◌}
use Prim.Native.Nat.{ℕ, ◌+◌, ◌-◌, ◌*◌, ◌≤◌, ◌<◌}
use native.Mathlib.Omega.{arith}
use lib.Dec.{eqb}
use lib.ListN.{length, drop, get_or, length-append, length-map}
use lib.Ieee.{Float, nan, binary64, to_bits, eq, of_bits}
use borrow.Author.Tests.{eqb-true}
use Rattle.float.specs.Number.{f0, f1}
use Rattle.float.specs.Answer.{Answer, ok}
use Rattle.float.specs.Answer.{refused as no}
use Rattle.float.specs.Slices.{written}
use Rattle.float.proofs.Truth.{both}
use Rattle.plane.specs.declared.Point.{Point}
use Rattle.plane.proofs.Fine.{good_point}
use Rattle.limits.specs.Limits.{most_marks}
use Rattle.marks.specs.Marks.{count, mark_at}
use Rattle.ring.specs.Ring.{again, whole}
use Rattle.ring.specs.declared.Outline.{Outline}
use Rattle.ring.specs.declared.Outline.TheVariants.{Open, Closed}
use Rattle.ring.proofs.Whole.{whole_length, whole-count}
use Rattle.squares.proofs.Controls.{GoodCurve}
use Rattle.numbers.specs.Words.{one, Zero}
use Rattle.form.specs.declared.Form.TheVariants.{Nine}
use Rattle.stages.specs.Worst.{error_of}
use Rattle.stages.specs.declared.worst.Worst.{Worst}
use Rattle.ends.specs.Ends.{Near, rooted}
use Rattle.gate.specs.Gate.{gate_for, gate_of}
use Rattle.gate.proofs.Tests.{PassedFor, passed_for, passed-even, passes, Passed, passed}
use Rattle.cut.specs.Run.{Beside, firsts_of, worsts_of, Run, refused, done, run_of}
use Rattle.tangents.specs.Ways.{over, outline_of, marks_of}
use Rattle.tangents.specs.declared.Cutting.{Cutting}
use Rattle.tangents.specs.declared.Cutting.TheVariants.{Joined, Ring}
use Rattle.blocks.specs.Blocks.{blocks_of}
use Rattle.marks.specs.Block.{block_size}
use Rattle.fit.specs.Fit.{Ending, ending, ended, entered, fit_of, cubic_gate, cubic_of}
use Rattle.fit.proofs.Entries.{size_within, cubic_passed, passed-usable}
use Rattle.faults.specs.Tests.{first_at, curve_at, stop_at, curve_finite, square_at, unmeasured, farthest}
use Rattle.faults.proofs.Farther.{farther_same}
use Rattle.checker.specs.Check.{check_of, checked_answer}
use Rattle.checker.specs.declared.Checked.{Checked}
use Rattle.checker.specs.declared.Checked.TheVariants as checked
use Rattle.sound.specs.Sound.{Sound, SamePoint}
use Rattle.sound.proofs.Kept.{Keeps, of_walk}
use Rattle.sound.proofs.Sound.{sound-passes}
use Rattle.sound.proofs.Agree.{same_checked}
use Rattle.sound.proofs.Closes.{sound_closes}
use Rattle.accepted.specs.Passes.{BlocksPass, JoinedPasses, RingPasses, DirectPasses}
use Rattle.accepted.specs.Closes.{FitCloses}
use Rattle.accepted.proofs.Laid.{Laid, laid_many, laid-curves}
use Rattle.accepted.proofs.Runs.{run-laid, blocks-laid}
use Rattle.accepted.proofs.Pieces.{kept_at, squares_from, Piece, laid_first, laid_some, laid_one, laid-unit, laid_piece}

-- ---- a laid list is sound

same_point : (p q : Point) → p ≡ q → SamePoint p q
same_point p q e = (ap (λ (p : Point). to_bits binary64 p.x) e, ap (λ (p : Point). to_bits binary64 p.y) e)

all_finite : (cs : List Float) (j : ℕ) → GoodCurve (curve_at Nine cs j) → curve_finite (curve_at Nine cs j) ≡ true
unfolding curve_finite
all_finite cs j g = both _ _ (good_point _ g.0) (both _ _ (good_point _ g.1) (both _ _ (good_point _ g.2) (good_point _ g.3)))

zero-eq : (x : Float) → Zero x → eq x f0 ≡ true
unfolding eq of_bits
zero-eq x (true, p) = ap (λ (v : Float). eq v f0) p
zero-eq x (false, p) = ap (λ (v : Float). eq v f0) p

one_eq : (x : Float) → x ≡ one → eq x f1 ≡ true
unfolding eq of_bits
one_eq x p = ap (λ (v : Float). eq v f1) p

module _ (ms : List Float) (tol : Float) (cs : List Float) (bs : List Beside) (ps X : List Float) (Y U : List ℕ) (Z : List Float) (two : 2 ≤ count ms) (l : Laid ms tol 0 (count ms - 1) cs bs ps) where
  -- the slices, with what stands behind the list
  abbrev C : List Float
  C = cs ++ X

  abbrev F : List ℕ
  F = firsts_of bs ++ Y

  abbrev W : List ℕ
  W = worsts_of bs ++ U

  abbrev P : List Float
  P = ps ++ Z

  -- the marks under curve j
  abbrev stop : ℕ → ℕ
  stop j = stop_at (count ms) (length bs) F j

  none : (x : ℕ) → x - 0 ≡ x
  none x = omega arith

  some : 0 < count ms
  some = omega arith

  piece : (j : ℕ) → j < length bs → Piece ms tol (count ms) 0 (length bs) C F W P j
  piece = laid_piece ms tol (count ms) some X Y U Z l

  near : (j : ℕ) → j < length bs → (i : ℕ) → first_at F j ≤ i → i < stop j → Near tol (mark_at ms i) (curve_at Nine C j) (get_or P i nan)
  near j b i a c = rw (none i) at ((piece j b).near i a c)

  -- what is kept is what the checker finds
  kept : (j : ℕ) → j < length bs → kept_at C W j ≡ rooted (farthest ms (curve_at Nine C j) P (first_at F j) (stop j - first_at F j))
  unfolding square_at
  kept j b =
      let c = curve_at Nine C j in
      let f = first_at F j in
      (piece j b).far
      ∙ ap rooted (farther_same (unmeasured f) (squares_from ms c 0 P f) (λ i. square_at ms c P (f + i)) f (stop j - f)
      (λ i u. ap (λ (k : ℕ). (error_of (mark_at ms (f + i)) c (get_or P k nan)).val) (none (f + i))))

  keeps : (j : ℕ) → j < length bs → Keeps ms (curve_at Nine C j) P (first_at F j) (stop j) C W j
  keeps j b =
      of_walk ms (curve_at Nine C j) P (first_at F j) (stop j) (piece j b).under (λ i a u. (near j b i a u).0) C W j
      (ap (λ (w : Worst). to_bits binary64 w.err) (kept j b)) (ap (λ (w : Worst). w.at) (kept j b))

  pub laid-sound : Sound Nine ms tol (length bs) (cs ++ X) (firsts_of bs ++ Y) (worsts_of bs ++ U) (ps ++ Z)
  laid-sound = record {
    some = laid_some ms tol (count ms) some X Y U Z l;
    from_first = laid_first ms tol (count ms) some X Y U Z l;
    two_or_more = λ j b. (piece j b).two;
    begins = λ j b. same_point _ _ (piece j b).begins;
    ends = λ j b. same_point _ _ (piece j b).ends;
    numbers = λ j b. all_finite C j (piece j b).good;
    within_unit = λ i b. rw (none i) at (laid-unit ms tol (count ms) some X Y U Z l i (omega arith) (omega arith));
    zero_at_first = λ j b. zero-eq _ (rw (none (first_at F j)) at (piece j b).zero_first);
    one_at_last = one_eq _ (rw (none (count ms - 1)) at (laid_one ms tol (count ms) some X Y U Z l));
    near-enough = near;
    worst_is = λ e j b. (keeps j b).mark;
    distance_kept = λ e j b. (keeps j b).bits;
  }

-- ---- a call that is accepted

-- what an accepted call leaves is a run's list over the lent slices
record Done (ms : List Float) (tol : Float) (k : ℕ) (C C' : List Float) (F F' W W' : List ℕ) (P P' : List Float) (g : ℕ) (R : Run) : Type 0 where
  cs : List Float
  bs : List Beside
  ps : List Float
  let_pass : g ≡ 0
  is_done : R ≡ done cs bs ps
  many : k ≡ length bs
  curves : C' ≡ written cs C
  firsts : F' ≡ written (firsts_of bs) F
  worsts : W' ≡ written (worsts_of bs) W
  params : P' ≡ written ps P

accepted-done : (ms : List Float) (tol : Float) (k : ℕ) (C C' : List Float) (F F' W W' : List ℕ) (P P' : List Float) (g : ℕ) (R : Run) → ending (ok k) C' F' W' P' ≡ entered g R C F W P → Done ms tol k C C' F F' W W' P P' g R
accepted-done ms tol k C C' F F' W W' P P' g R h = go (eqb g 0) refl h
  where
    run : (R : Run) → g ≡ 0 → ending (ok k) C' F' W' P' ≡ ended R C F W P → Done ms tol k C C' F F' W W' P P' g R
    run (refused q) z h = let a : ◌≡◌ {A = Answer ℕ} (ok k) (no q) = ap (λ (x : Ending). x.answer) h in let y : ◌≡◌ {A = ℕ} 0 1 = cc in absurd (omega arith)
    run (done cs bs ps) z h =
        let a : ◌≡◌ {A = Answer ℕ} (ok k) (ok (length bs)) = ap (λ (x : Ending). x.answer) h in
        record {
          cs = cs;
          bs = bs;
          ps = ps;
          let_pass = z;
          is_done = refl;
          many = cc;
          curves = ap (λ (x : Ending). x.curves) h;
          firsts = ap (λ (x : Ending). x.firsts) h;
          worsts = ap (λ (x : Ending). x.worsts) h;
          params = ap (λ (x : Ending). x.params) h;
        }

    go : (b : Bool) → eqb g 0 ≡ b → ending (ok k) C' F' W' P' ≡ cond b (ended R C F W P) (ending (no g) C F W P) → Done ms tol k C C' F F' W W' P P' g R
    go true e h = run R (eqb-true g 0 e) h
    go false e h = let a : ◌≡◌ {A = Answer ℕ} (ok k) (no g) = ap (λ (x : Ending). x.answer) h in let y : ◌≡◌ {A = ℕ} 0 1 = cc in absurd (omega arith)

-- a list laid by an accepted call is sound, and the checker does not refuse it
pub record Passing (o : Outline) (ms : List Float) (tol : Float) (k : ℕ) (C : List Float) (F W : List ℕ) (P : List Float) : Type 0 where
  pub taken : gate_for most_marks o Nine k ms tol (length C) (length F) (length W) (length P) ≡ 0
  pub sound : Sound Nine (whole o ms) tol k C F W P

module _ (o : Outline) (ms : List Float) (tol : Float) (k : ℕ) where
  laid_passing : (top : ℕ) (cs C : List Float) (bs : List Beside) (F W : List ℕ) (ps P : List Float) → top ≤ most_marks → Passed top o ms tol (length C) (length F) (length W) (length P) → k ≡ length bs
      → Laid (whole o ms) tol 0 (count (whole o ms) - 1) cs bs ps → Passing o ms tol k (written cs C) (written (firsts_of bs) F) (written (worsts_of bs) W) (written ps P)
  laid_passing top cs C bs F W ps P t g e l = rw e (record { taken = passes most_marks o Nine (length bs) ms tol _ _ _ _ room; sound = laid-sound (whole o ms) tol cs bs ps _ _ _ _ (omega (arith, n, two)) l })
    where
      two : again o + 2 ≤ count ms
      two = g.two

      n : count (whole o ms) ≡ again o + count ms
      n = whole-count o ms (passed-even g)

      room : PassedFor most_marks o Nine (length bs) ms tol (length (written cs C)) (length (written (firsts_of bs) F)) (length (written (worsts_of bs) W)) (length (written ps P))
      room =
          let a = laid-curves l in
          let b = laid_many l in
          let m = n in
          let most = g.most in
          let x = length-append cs (drop (length cs) C) in
          let y = length-append (firsts_of bs) (drop (length (firsts_of bs)) F) in
          let u = length-append (worsts_of bs) (drop (length (worsts_of bs)) W) in
          let f = length-map bs (λ b. b.first) in
          let w = length-map bs (λ b. b.worst) in
          let z = length-append ps (drop (length ps) P) in
          record { even = g.even; two = two; most = omega arith; curves = omega arith; firsts = omega arith; worsts = omega arith; params = omega (arith, two); near = g.near; usable = g.usable }

  same_lists : (C C' : List Float) (F F' W W' : List ℕ) (P P' : List Float) → C' ≡ C → F' ≡ F → W' ≡ W → P' ≡ P → Passing o ms tol k C F W P → Passing o ms tol k C' F' W' P'
  same_lists C C' F F' W W' P P' x y u z h = rw (x, y, u, z) h

module _ (ms : List Float) (tol : Float) (k : ℕ) (C C' : List Float) (F F' W W' : List ℕ) (P P' : List Float) where
  -- the list of a fit by blocks that meet: the run's, laid over the marks, and at the front of the lent slices
  pub record Given (cutting : Cutting) : Type 0 where
    pub cs : List Float
    pub bs : List Beside
    pub ps : List Float
    pub gate : Passed most_marks (outline_of cutting) ms tol (length C) (length F) (length W) (length P)
    pub is_done : blocks_of cutting (marks_of cutting ms) (block_size (count (marks_of cutting ms))) tol ≡ done cs bs ps
    pub laid : Laid (marks_of cutting ms) tol 0 (count (marks_of cutting ms) - 1) cs bs ps
    pub many : k ≡ length bs
    pub curves : C' ≡ written cs C
    pub firsts : F' ≡ written (firsts_of bs) F
    pub worsts : W' ≡ written (worsts_of bs) W
    pub params : P' ≡ written ps P

  pub blocks-given : (cutting : Cutting) → over cutting ≡ 1 → ending (ok k) C' F' W' P' ≡ fit_of cutting ms tol C F W P → Given cutting
  unfolding fit_of blocks_of
  blocks-given cutting meet h =
      let o = outline_of cutting in
      let ws = marks_of cutting ms in
      let d = accepted-done ms tol k C C' F F' W W' P P' (gate_of most_marks o ms tol (length C) (length F) (length W) (length P)) (blocks_of cutting ws (block_size (count ws)) tol) h in
      let g = passed most_marks o ms tol (length C) (length F) (length W) (length P) d.let_pass in
      let two = g.two in
      let e = passed-even g in
      let n = whole-count o ms e in
      let l = whole_length o ms e in
      let even : length ws ≡ 2 * count ws = omega arith in
      let size = size_within (count ws) (block_size (count ws)) refl in
      record {
        cs = d.cs;
        bs = d.bs;
        ps = d.ps;
        gate = g;
        is_done = d.is_done;
        laid = blocks-laid tol ws (count ws) (block_size (count ws)) even (passed-usable g) cutting meet d.cs d.bs d.ps (omega arith) (omega arith) d.is_done;
        many = d.many;
        curves = d.curves;
        firsts = d.firsts;
        worsts = d.worsts;
        params = d.params;
      }

  pub blocks_passing : (cutting : Cutting) → over cutting ≡ 1 → ending (ok k) C' F' W' P' ≡ fit_of cutting ms tol C F W P → Passing (outline_of cutting) ms tol k C' F' W' P'
  blocks_passing cutting meet h =
      let o = outline_of cutting in
      let d = blocks-given cutting meet h in
      same_lists o ms tol k _ C' _ F' _ W' _ P' d.curves d.firsts d.worsts d.params (laid_passing o ms tol k most_marks d.cs C d.bs F W d.ps P (omega arith) d.gate d.many d.laid)

  pub direct_passing : (s e : Point) → ending (ok k) C' F' W' P' ≡ cubic_of ms s e tol C F W P → Passing Open ms tol k C' F' W' P'
  unfolding cubic_of
  direct_passing s e h =
      let d = accepted-done ms tol k C C' F F' W W' P P' (cubic_gate ms s e tol (length C) (length F) (length W) (length P)) (run_of ms 0 s e tol) h in
      let g = cubic_passed ms s e tol (length C) (length F) (length W) (length P) (sym d.let_pass) in
      let two = g.two in
      same_lists Open ms tol k _ C' _ F' _ W' _ P' d.curves d.firsts d.worsts d.params
      (laid_passing Open ms tol k 512 d.cs C d.bs F W d.ps P (omega arith) g d.many
      (run-laid tol ms s e d.cs d.bs d.ps (omega arith) (passed-usable g) d.is_done))

-- ---- stated of the promises

module _ (o : Outline) (ms : List Float) (tol : Float) (k : ℕ) (C : List Float) (F W : List ℕ) (P : List Float) (answer : Checked) (checks : checked_answer answer ≡ check_of o Nine ms tol k C F W P) where
  passing_passes : Passing o ms tol k C F W P → answer ≡ checked.Passed
  unfolding checked_answer
  passing_passes h = same_checked answer checked.Passed (checks ∙ sound-passes o Nine ms tol k C F W P h.taken h.sound)

blocks_pass : (cutting : Cutting) → over cutting ≡ 1 → BlocksPass cutting
blocks_pass cutting meet ms tol k C C' F F' W W' P P' answer fits checks = passing_passes (outline_of cutting) ms tol k C' F' W' P' answer checks (blocks_passing ms tol k C C' F F' W W' P P' cutting meet fits)

pub joined-passes : JoinedPasses
unfolding over
joined-passes = blocks_pass Joined refl

pub ring_passes : RingPasses
unfolding over
ring_passes = blocks_pass Ring refl

pub direct_passes : DirectPasses
direct_passes ms s e tol k C C' F F' W W' P P' answer fits checks = passing_passes Open ms tol k C' F' W' P' answer checks (direct_passing ms tol k C C' F F' W W' P P' s e fits)

pub fit_closes : FitCloses
unfolding over
fit_closes ms tol k C C' F F' W W' P P' fits =
    let h = blocks_passing ms tol k C C' F F' W W' P P' Ring refl fits in
    let g = passed_for most_marks Closed Nine k ms tol (length C') (length F') (length W') (length P') h.taken in
    sound_closes Nine ms tol k C' F' W' P' (passed-even g) h.sound
