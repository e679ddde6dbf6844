-- What a fit gives are values that an f64 holds: each is a mark's, or an operation's result. Proved of the definitions. Assumes nothing.
use mathlib.Core.Path.{◌≡◌}
use mathlib.Core.Bool.{Bool, true, false, ◌||◌, cond}
use mathlib.Core.List.{List}
use Prim.Native.Nat.{ℕ, zero, suc, ◌+◌, ◌-◌, ◌*◌, ◌≤◌, ◌<◌}
use native.Mathlib.Omega.{arith}
use lib.Dec.{T, leb}
use lib.ListN.{length, get_or}
use lib.Ieee.{Float, nan, binary64, fits, of_bits, lt, le, eq, mul, div}
use lib.Ieee.Fits.{add-fits, sub-fits, div-fits}
use Rattle.float.specs.Number.{f0, f1, f3, clamp01}
use Rattle.float.specs.Calc.{Calc, give, ◌>>=◌, ◌-!◌, ◌/!◌}
use Rattle.float.specs.Answer.{ok, unless, outcome}
use Rattle.float.specs.Folds.{upto}
use Rattle.root.proofs.Nearest.{sqrt-fits}
use Rattle.plane.specs.Plane.{plus, distance_of}
use Rattle.plane.specs.declared.Point.{Point}
use Rattle.plane.specs.declared.Curve.{Curve}
use Rattle.cubic.specs.Basis.{point_at}
use Rattle.newton.specs.declared.Vertices.{Vertices}
use Rattle.newton.specs.Newton.{vertices_of, ratio_of, newton_by, newton}
use Rattle.marks.specs.Marks.{count, mark_at}
use Rattle.marks.specs.Line.{line_of}
use Rattle.stages.specs.Chords.{chords_of}
use Rattle.stages.specs.Newton.{step_at, reparam}
use Rattle.stages.specs.Worst.{error_of, larger, worst_at, worst, max_error}
use Rattle.stages.specs.declared.worst.Worst.{Worst}
use Rattle.squares.specs.declared.solve.Alphas.{Alphas}
use Rattle.squares.specs.Solve.{f1e_6, curve_of, place_of}
use Rattle.squares.specs.Squares.{generate_of}
use Rattle.part.specs.Trial.{Trial, attempt, enough, improve, tried}
use Rattle.part.specs.Part.{Part, cuts, fails, pick, lined, judged, part_of}
use Rattle.part.specs.Part.{fits as one}
use Rattle.tangents.specs.declared.Ways.{Ways}
use Rattle.tangents.specs.declared.Cutting.{Cutting}
use Rattle.tangents.specs.Ways.{over}
use Rattle.cut.specs.Run.{Beside, Run, refused, done, flat, join, run_of}
use Rattle.cut.proofs.Run.{run_by}
use Rattle.gate.specs.Gate.{Usable}
use Rattle.blocks.specs.Blocks.{block_at, blocks_from}
use Rattle.blocks.proofs.Blocks.{usable_block}
use Rattle.accepted.proofs.Within.{block_count}
use Rattle.accepted.proofs.ByBlocks.{blocks_by}
use Rattle.ends.specs.Ends.{FitsP, worst_of}
use Rattle.ends.proofs.Worst.{error_fits}
use Rattle.stored.proofs.Values.{Held, none, more, held_append, held-take, held-drop, held-get, held-each, held-mark}

-- ---- a curve

abbrev HeldCurve : Curve → Type 0
HeldCurve c = FitsP c.start × (FitsP c.cp1 × (FitsP c.cp2 × FitsP c.end))

plus-held : (p q : Point) → FitsP (plus p q).val
unfolding plus
plus-held p q = (add-fits binary64 p.x q.x, add-fits binary64 p.y q.y)

-- what holds of both values holds of the one that is picked
either : {A : Type 0} (Q : A → Type 0) (b : Bool) (X Y : Calc A) → Q X.val → Q Y.val → Q (cond b X Y).val
either Q true X Y h k = h
either Q false X Y h k = k

module _ (p q : Point) (f : FitsP p) (g : FitsP q) where
  line-held : HeldCurve (line_of p q).val
  unfolding line_of
  line-held = (f, (plus-held _ _, (plus-held _ _, g)))

  module _ (st et : Point) where
    curve-held : (l r : Float) → HeldCurve (curve_of p q st et l r).val
    unfolding curve_of
    curve-held l r = (f, (plus-held _ _, (plus-held _ _, g)))

    -- both controls a third of the ends' distance out
    abbrev third : Calc Curve
    third = do
      dist ← (distance_of p q).val /! f3
      curve_of p q st et dist dist

    place-held : (a : Alphas) → HeldCurve (place_of p q st et a).val
    unfolding place_of
    place-held a =
        let e = mul binary64 f1e_6 (distance_of p q).val in
        either HeldCurve (lt a.alpha_l e || lt a.alpha_r e) third (curve_of p q st et a.alpha_l a.alpha_r) (curve-held _ _) (curve-held _ _)

generate_held : {ms : List Float} → Held ms → (ts : List Float) (st et : Point) → HeldCurve (generate_of ms ts st et).val
unfolding generate_of
generate_held {ms} h ts st et = place-held (mark_at ms 0) (mark_at ms (length ts - 1)) (held-mark h 0) (held-mark h (length ts - 1)) st et _

-- ---- the parameters

chords_held : (ms : List Float) (n : ℕ) → Held (chords_of ms n).val
unfolding chords_of
chords_held ms n = held-each _ (λ k. div-fits binary64 _ _) n

zero_held : T (fits binary64 f0)
zero_held = unfold of_bits fits in tt

one_held : T (fits binary64 f1)
one_held = unfold of_bits fits in tt

clamp-held : (x : Float) → T (fits binary64 x) → T (fits binary64 (clamp01 x))
unfolding clamp01
clamp-held x h = go (lt x f0) (lt f1 x)
  where
    go : (b c : Bool) → T (fits binary64 (cond b f0 (cond c f1 x)))
    go true c = zero_held
    go false true = one_held
    go false false = h

-- t is kept, or a difference is clamped
abbrev stepped : Bool → Float → Float → Float → Calc Float
stepped b t n d = cond b (give t) (do give (clamp01 (← t -! (← n /! d))))

pick-step : (b : Bool) (t n d : Float) → T (fits binary64 t) → T (fits binary64 (stepped b t n d).val)
pick-step b t n d h = either (λ x. T (fits binary64 x)) b (give t) (do give (clamp01 (← t -! (← n /! d)))) h (clamp-held _ (sub-fits binary64 t (div binary64 n d)))

by_held : (c : Curve) (q : Vertices) (p : Point) (t : Float) → T (fits binary64 t) → T (fits binary64 (newton_by c q p t).val)
unfolding newton_by
by_held c q p t h = let r = (ratio_of (point_at c t).val q p t).val in pick-step (eq r.denominator f0) t r.numerator r.denominator h

step-held : (c : Curve) (p : Point) (t : Float) → T (fits binary64 t) → T (fits binary64 (newton c p t).val)
unfolding newton
step-held c p t h = by_held c (vertices_of c).val p t h

reparam-held : (ms : List Float) (c : Curve) {ts : List Float} → Held ts → Held (reparam ms c ts).val
unfolding reparam step_at
reparam-held ms c {ts} h = held-each _ (λ k. step-held c (mark_at ms k) (get_or ts k nan) (held-get h k)) (length ts)

-- ---- the largest distance

larger-held : (w : Worst) (e : Float) (k : ℕ) → T (fits binary64 w.err) → T (fits binary64 e) → T (fits binary64 (larger w e k).err)
unfolding larger
larger-held w e k h g = go (lt w.err e)
  where
    go : (b : Bool) → T (fits binary64 (cond {A = Worst} b (record { err = e; at = k }) w).err)
    go true = g
    go false = h

worst-held : (ms : List Float) (c : Curve) (ts : List Float) (n : ℕ) → T (fits binary64 (worst_of ms c ts n).err)
unfolding upto worst_at
worst-held ms c ts zero = zero_held
worst-held ms c ts (suc n) = larger-held (worst_of ms c ts n) (error_of (mark_at ms n) c (get_or ts n nan)).val n (worst-held ms c ts n) (error_fits (mark_at ms n) c (get_or ts n nan))

far-held : (ms : List Float) (c : Curve) (ts : List Float) → T (fits binary64 (max_error ms c ts).val.err)
unfolding max_error worst
far-held ms c ts = sqrt-fits (worst_of ms c ts (length ts)).err (worst-held ms c ts (length ts))

-- ---- the rounds

abbrev HeldTrial : Trial → Type 0
HeldTrial a = HeldCurve a.curve × (T (fits binary64 a.far.err) × Held a.params)

module _ {ms : List Float} (h : Held ms) (st et : Point) where
  attempt-held : (c : Curve) {ts : List Float} → Held ts → HeldTrial (attempt ms st et c ts).val
  unfolding attempt
  attempt-held c {ts} k =
      let us = (reparam ms c ts).val in
      (generate_held h us st et, (far-held ms (generate_of ms us st et).val us, reparam-held ms c k))

  module _ (tol : Float) where
    improve-held : (k : ℕ) (a : Trial) → HeldTrial a → HeldTrial (improve k ms st et tol a).val
    unfolding improve
    improve-held zero a t = t
    improve-held (suc k) a t =
        let b = (attempt ms st et a.curve a.params).val in
        let n = attempt-held a.curve t.1.1 in
        either HeldTrial (lt enough (div binary64 b.far.err a.far.err) || le b.far.err tol) (give b) (improve k ms st et tol b) n (improve-held k b n)

    tried-held : (n : ℕ) → HeldTrial (tried n ms st et tol).val
    unfolding tried
    tried-held n =
        let ts = (chords_of ms n).val in
        let c = (generate_of ms ts st et).val in
        let a = (attempt ms st et c ts).val in
        let t = attempt-held c (chords_held ms n) in
        either HeldTrial (lt tol a.far.err) (improve 7 ms st et tol a) (give a) (improve-held 7 a t) t

-- ---- one part

abbrev HeldPart : Part → Type 0
HeldPart (one c w ps) = HeldCurve c × (T (fits binary64 w.err) × Held ps)
HeldPart (cuts k) = Unit {0}
HeldPart (fails q) = Unit {0}

pick_part : (b : Bool) (X Y : Part) → HeldPart X → HeldPart Y → HeldPart (pick b X Y)
pick_part true X Y h k = h
pick_part false X Y h k = k

lined-held : (b : Bool) (c : Curve) → HeldCurve c → HeldPart (lined (unless 6 b (ok c)))
lined-held true c h = (h, (zero_held, more zero_held (more one_held none)))
lined-held false c h = tt

judged-held : (tol : Float) (b : Bool) (a : Trial) → HeldTrial a → HeldPart (judged tol (unless 6 b (ok a)))
judged-held tol false a h = tt
judged-held tol true a h = pick_part (le a.far.err tol) (one a.curve a.far a.params) (cuts a.far.at) h tt

part_held : (ms : List Float) → Held ms → (st et : Point) (tol : Float) → HeldPart (part_of ms st et tol)
unfolding part_of outcome
part_held ms h st et tol =
    let l = line_of (mark_at ms 0) (mark_at ms 1) in
    let t = tried (count ms) ms st et tol in
    pick_part (leb (count ms) 2) (lined (unless 6 l.fine (ok l.val))) (judged tol (unless 6 t.fine (ok t.val)))
    (lined-held l.fine l.val (line-held (mark_at ms 0) (mark_at ms 1) (held-mark h 0) (held-mark h 1)))
    (judged-held tol t.fine t.val (tried-held h st et tol (count ms)))

-- ---- a run, and blocks of them

abbrev HeldLists : List Float → List Float → Type 0
HeldLists cs ps = Held cs × Held ps

abbrev HeldRun : Run → Type 0
HeldRun (refused q) = Unit {0}
HeldRun (done cs bs ps) = HeldLists cs ps

flat-held : (c : Curve) (x : Float) → HeldCurve c → T (fits binary64 x) → Held (flat c x)
flat-held c x h f = more h.0.0 (more h.0.1 (more h.1.0.0 (more h.1.0.1 (more h.1.1.0.0 (more h.1.1.0.1 (more h.1.1.1.0 (more h.1.1.1.1 (more f none))))))))

join-held : (k : ℕ) (R R' : Run) → HeldRun R → HeldRun R' → HeldRun (join k R R')
join-held k (refused q) R' l r = tt
join-held k (done c f p) (refused q) l r = tt
join-held k (done c f p) (done c' f' p') l r = (held_append l.0 r.0, held_append (held-take k l.1) r.1)

run-held : (tol : Float) (ms : List Float) (first : ℕ) (s e : Point) → 2 ≤ count ms → Usable ms tol → Held ms → HeldRun (run_of ms first s e tol)
run-held tol ms first s e h u =
    run_by tol (λ ms X. Held ms → HeldPart X) (λ ms s e h k. part_held ms k s e tol) (λ ms first R. Held ms → HeldRun R)
    (λ ms first c w ps h f p k. (flat-held c w.err (p k).0 (p k).1.0, (p k).1.1))
    (λ ms first k. tt)
    (λ ms first k R R' i j l r m. join-held k R R' (l (held-take (2 * k + 2) m)) (r (held-drop (2 * k) m)))
    ms first s e h u

-- the lists of a fit by blocks that meet
module _ (k : Cutting) (meet : over k ≡ 1) (ms : List Float) (n size : ℕ) (tol : Float) (h : Held ms) (u : Usable ms tol) (even : length ms ≡ 2 * n) where
  block_held : (from to : ℕ) (w : Ways) (cs : List Float) (bs : List Beside) (ps : List Float) → from + 2 ≤ to → to ≤ n → run_of (block_at ms from to) from w.start w.end tol ≡ done cs bs ps → HeldLists cs ps
  block_held from to w cs bs ps l m q =
      let c : count (block_at ms from to) ≡ to - from = block_count ms n even from to l m in
      let r : HeldRun (done cs bs ps) = rw q at (run-held tol (block_at ms from to) from w.start w.end (omega (arith, c)) (usable_block from to u) (held-take (2 * to - 2 * from) (held-drop (2 * from) h))) in
      r

  pub blocks-held : (cs : List Float) (bs : List Beside) (ps : List Float) → 0 < size → 2 ≤ n → blocks_from k ms n size tol 0 ≡ done cs bs ps → Held cs × Held ps
  blocks-held =
      blocks_by k meet ms n size tol (λ f g cs bs ps. HeldLists cs ps) block_held
      (λ f g e cs cs' bs bs' ps ps' l x y. (held_append x.0 y.0, held_append (held-take (g - f) x.1) y.1))
