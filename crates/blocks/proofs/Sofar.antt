-- The loop over the blocks: at its head `made` curves stand at the front, up to mark `from`, and the whole is those and the rest. Assumes nothing.
use Prim.Native.Nat.{ℕ, zero, suc, ◌+◌, ◌-◌, ◌*◌, ◌≤◌, ◌<◌}
use native.Mathlib.Omega.{arith}
use mathlib.Core.Path.{◌≡◌, refl, sym, ap, ◌∙◌}
use mathlib.Core.List.{List, [], ◌∷◌, ◌++◌, append-nil}
use lib.ListN.{length, take, drop, set, length-append, length-take, length-drop, drop_of_length-le}
use lib.Seq.{take-append-le, take-append-add}
use lib.Dec.{ltb}
use lib.Ieee.{Float}
use borrow.Author.Tests.{lt-ltb, le-ltb}
use Rattle.std.specs.Prelude.{Result, Ok, Err}
use Rattle.float.specs.Number.{f0}
use Rattle.float.specs.Refusal.{answer}
use Rattle.float.specs.declared.refusal.Refusal.{Refusal}
use Rattle.float.specs.Slices.{written}
use Rattle.limits.specs.Limits.{most_numbered}
use Rattle.marks.specs.Marks.{count}
use Rattle.form.specs.Form.{record_numbers}
use Rattle.cut.specs.Run.{Run, done, Beside, firsts_of, worsts_of, join}
use Rattle.gate.specs.Gate.{Usable}
use Rattle.cut.specs.Lent.{Left, Ready}
use Rattle.cut.proofs.Run.{Sizes}
use Rattle.float.proofs.Slices.{written_behind, part_length, inner_length}
use Rattle.cut.proofs.Cut.{Done, is_done, is_refused, beside-behind}
use Rattle.tangents.specs.declared.Cutting.{Cutting}
use Rattle.blocks.specs.Blocks.{block_of, last_of, blocks_from, blocks_of}
use Rattle.tangents.specs.Ways.{over}
use Rattle.tangents.proofs.Blocks.{over-small}
use Rattle.blocks.proofs.Blocks.{blocks_last, blocks_more, block_sized, prepend, join_prepend, prepend_twice, prepend_none}

pub part_len : {A : Type 0} (a b : ℕ) (l : List A) → a + b ≤ length l → length (take b (drop a l)) ≡ b
part_len a b l h = simp (length-take, length-drop) (omega arith)

set_last : {A : Type 0} (i : ℕ) (v : A) (l : List A) → length l ≡ i + 1 → set l i v ≡ take i l ++ (v ∷ [])
set_last i v [] h = absurd (omega arith)
set_last zero v (x ∷ []) h = refl
set_last zero v (x ∷ y ∷ l) h = absurd (omega arith)
set_last {A = A} (suc i) v (x ∷ l) h = ap (λ (t : List A). x ∷ t) (set_last i v l (omega arith))

pub take_behind : {A : Type 0} (a b : ℕ) (xs ys p zs : List A) → xs ≡ ys → length ys ≡ a → b ≤ length p → take (a + b) (xs ++ (p ++ zs)) ≡ ys ++ take b p
take_behind {A = A} a b xs ys p zs e l h = rw (e, ← l) (take-append-add ys _ b ∙ ap (λ (t : List A). ys ++ t) (take-append-le b p zs h))

-- a call of fit_blocks: its arguments, and how many marks a block takes in
pub record Call : Type 0 where
  pub k : Cutting
  pub ms : List Float
  pub size : ℕ
  pub tol : Float
  pub C : List Float
  pub F : List ℕ
  pub W : List ℕ
  pub P : List Float
  pub w : ℕ

abbrev pub call : Cutting → List Float → ℕ → Float → List Float → List ℕ → List ℕ → List Float → ℕ → Call
call k ms size tol C F W P w = record { k = k; ms = ms; size = size; tol = tol; C = C; F = F; W = W; P = P; w = w }

-- what it asks
pub record Asked (K : Call) : Type 0 where
  pub ready : Ready K.ms 0 K.tol K.C K.F K.W K.P
  pub two : 2 ≤ K.size
  pub top : K.size ≤ 200
  pub ew : K.w ≡ K.size + over K.k

pub asked : (k : Cutting) (ms : List Float) (size : ℕ) (tol : Float) (C : List Float) (F W : List ℕ) (P : List Float) (o : ℕ) → Ready ms 0 tol C F W P × ((2 ≤ size) × (size ≤ 200)) → o ≡ over k → Asked (call k ms size tol C F W P (size + o))
asked k ms size tol C F W P o h e = record { ready = h.0; two = h.1.0; top = h.1.1; ew = ap (λ (i : ℕ). size + i) e }

-- the run from mark `from` on
abbrev pub rest : Call → ℕ → Run
rest K from = blocks_from K.k K.ms (length K.P) K.size K.tol from

abbrev pub block : Call → ℕ → ℕ → Run
block K from to = block_of K.k K.ms (length K.P) K.tol from to

pub whole_is : (K : Call) → Asked K → blocks_of K.k K.ms K.size K.tol ≡ rest K 0
unfolding blocks_of
whole_is K A =
    let ready = A.ready in
    let e : count K.ms ≡ length K.P = omega arith in
    ap (λ (n : ℕ). blocks_from K.k K.ms n K.size K.tol 0) e

-- the run from there on, with a block that is not the last, and with the last
rest_more : (K : Call) → Asked K → (from : ℕ) → K.w < length K.P - from → rest K from ≡ join K.size (block K from (from + K.w)) (rest K (from + K.size))
rest_more K A from more =
    let z = A.two in
    rw A.ew (blocks_more K.k K.ms (length K.P) K.size K.tol from (omega arith) (rw A.ew at more))

rest_last : (K : Call) → Asked K → (from : ℕ) → from < length K.P → length K.P - from ≤ K.w → rest K from ≡ last_of (ltb (length K.P - from) 2) K.k K.ms (length K.P) K.tol from
rest_last K A from h stop = blocks_last K.k K.ms (length K.P) K.size K.tol from h (rw A.ew at stop)

pub record Sofar (K : Call) (from made : ℕ) (C₁ : List Float) (F₁ W₁ : List ℕ) (P₁ : List Float) : Type 0 where
  pub cs : List Float
  pub bs : List Beside
  pub ps : List Float
  pub whole : rest K 0 ≡ prepend cs bs ps (rest K from)
  pub nine : length cs ≡ record_numbers * made
  pub long : length bs ≡ made
  pub each : length ps ≡ from
  pub curves : C₁ ≡ written cs K.C
  pub firsts : F₁ ≡ written (firsts_of bs) K.F
  pub worsts : W₁ ≡ written (worsts_of bs) K.W
  pub front : take from P₁ ≡ ps
  pub few : made ≤ from
  pub ahead : from + K.w < length K.P + K.size
  pub lc : length C₁ ≡ length K.C
  pub lf : length F₁ ≡ length K.F
  pub lw : length W₁ ≡ length K.W
  pub lp : length P₁ ≡ length K.P

pub so_none : (K : Call) → Asked K → Sofar K 0 0 K.C K.F K.W K.P
so_none K A = record {
  cs = [];
  bs = [];
  ps = [];
  whole = prepend_none (rest K 0);
  nine = refl;
  long = refl;
  each = refl;
  curves = refl;
  firsts = refl;
  worsts = refl;
  front = refl;
  few = omega arith;
  ahead = let ready = A.ready in let e = A.ew in let s = over-small K.k in omega arith;
  lc = refl;
  lf = refl;
  lw = refl;
  lp = refl;
}

-- the loop's head: a call, what it asks, and what stands
pub record Head : Type 0 where
  pub K : Call
  pub A : Asked K
  pub from : ℕ
  pub made : ℕ
  pub C₁ : List Float
  pub F₁ : List ℕ
  pub W₁ : List ℕ
  pub P₁ : List Float
  pub so : Sofar K from made C₁ F₁ W₁ P₁

-- the same by what a call asks and what the loop keeps
abbrev pub head : {k : Cutting} {ms : List Float} {size : ℕ} {tol : Float} {C : List Float} {F W : List ℕ} {P : List Float} {o : ℕ} → Ready ms 0 tol C F W P × ((2 ≤ size) × (size ≤ 200)) → o ≡ over k → {from made : ℕ} {C₁ : List Float} {F₁ W₁ : List ℕ} {P₁ : List Float}
    → Sofar (call k ms size tol C F W P (size + o)) from made C₁ F₁ W₁ P₁ → Head
head {k} {ms} {size} {tol} {C} {F} {W} {P} {o} h e {from} {made} {C₁} {F₁} {W₁} {P₁} so =
    record { K = call k ms size tol C F W P (size + o); A = asked k ms size tol C F W P o h e; from = from; made = made; C₁ = C₁; F₁ = F₁; W₁ = W₁; P₁ = P₁; so = so }

-- the numbers that the needs are worked out from
pub record Numbers (H : Head) : Type 0 where
  pub ready : Ready H.K.ms 0 H.K.tol H.K.C H.K.F H.K.W H.K.P
  pub two : 2 ≤ H.K.size
  pub top : H.K.size ≤ 200
  pub low : H.K.size ≤ H.K.w
  pub high : H.K.w ≤ H.K.size + 1
  pub few : H.made ≤ H.from
  pub ahead : H.from + H.K.w < length H.K.P + H.K.size
  pub lc : length H.C₁ ≡ length H.K.C
  pub lf : length H.F₁ ≡ length H.K.F
  pub lw : length H.W₁ ≡ length H.K.W
  pub lp : length H.P₁ ≡ length H.K.P

module _ (H : Head) where
  abbrev K : Call
  K = H.K

  abbrev A : Asked K
  A = H.A

  abbrev from : ℕ
  from = H.from

  abbrev made : ℕ
  made = H.made

  abbrev C₁ : List Float
  C₁ = H.C₁

  abbrev F₁ : List ℕ
  F₁ = H.F₁

  abbrev W₁ : List ℕ
  W₁ = H.W₁

  abbrev P₁ : List Float
  P₁ = H.P₁

  abbrev so : Sofar K from made C₁ F₁ W₁ P₁
  so = H.so

  abbrev n : ℕ
  n = length K.P

  pub numbers : Numbers H
  numbers = record { ready = A.ready; two = A.two; top = A.top; low = let e = A.ew in omega arith; high = let e = A.ew in let s = over-small K.k in omega arith; few = so.few; ahead = so.ahead; lc = so.lc; lf = so.lf; lw = so.lw; lp = so.lp }

  -- what is lent of the curves, of the first marks and of the worst
  abbrev pub CC : List Float
  CC = take (length C₁ - record_numbers * made) (drop (record_numbers * made) C₁)

  abbrev pub FF : List ℕ
  FF = take (length F₁ - made) (drop made F₁)

  abbrev pub WW : List ℕ
  WW = take (length W₁ - made) (drop made W₁)

  -- the block up to mark `to`, over m parameters: its answer, and what it left of the parts that it was lent
  pub record Ran (to m : ℕ) : Type 0 where
    pub r : Result ℕ Refusal
    pub D₁ : List Float
    pub E₁ : List ℕ
    pub V₁ : List ℕ
    pub p : List Float
    pub left : Left (block K from to) r CC D₁ FF E₁ WW V₁ p
    pub ld : length D₁ ≡ length CC
    pub le : length E₁ ≡ length FF
    pub lv : length V₁ ≡ length WW
    pub lp : length p ≡ length (take m (drop from P₁))

  -- the same by its contract
  abbrev pub ran : {to m : ℕ} (r : Result ℕ Refusal) (D₁ : List Float) (E₁ V₁ : List ℕ) (p : List Float) → Left (block K from to) r CC D₁ FF E₁ WW V₁ p → length D₁ ≡ length CC → length E₁ ≡ length FF → length V₁ ≡ length WW → length p ≡ length (take m (drop from P₁)) → Ran to m
  ran r D₁ E₁ V₁ p left ld le lv lp = record { r = r; D₁ = D₁; E₁ = E₁; V₁ = V₁; p = p; left = left; ld = ld; le = le; lv = lv; lp = lp }

  -- the lent slices when their parts are back
  module _ {to m : ℕ} (R : Ran to m) where
    abbrev pub C₂ : List Float
    C₂ = take (record_numbers * made) C₁ ++ (R.D₁ ++ drop (length C₁ - record_numbers * made) (drop (record_numbers * made) C₁))

    abbrev pub F₂ : List ℕ
    F₂ = take made F₁ ++ (R.E₁ ++ drop (length F₁ - made) (drop made F₁))

    abbrev pub W₂ : List ℕ
    W₂ = take made W₁ ++ (R.V₁ ++ drop (length W₁ - made) (drop made W₁))

    abbrev pub P₂ : List Float
    P₂ = take from P₁ ++ (R.p ++ drop m (drop from P₁))

    pub as_long_curves : length C₂ ≡ length K.C
    as_long_curves = let z = numbers in part_length (record_numbers * made) (length C₁ - record_numbers * made) C₁ R.D₁ (omega (arith, z)) refl R.ld ∙ so.lc

    pub as_long_firsts : length F₂ ≡ length K.F
    as_long_firsts = let z = numbers in part_length made (length F₁ - made) F₁ R.E₁ (omega (arith, z)) refl R.le ∙ so.lf

    pub as_long_worsts : length W₂ ≡ length K.W
    as_long_worsts = let z = numbers in part_length made (length W₁ - made) W₁ R.V₁ (omega (arith, z)) refl R.lv ∙ so.lw

    pub as_long_params : from + m ≤ n → length P₂ ≡ length K.P
    as_long_params h = let z = numbers in inner_length from m P₁ R.p (omega (arith, z)) R.lp ∙ so.lp

  -- ---- a block that is not the last
  module _ (more : K.w < n - from) where
    abbrev to : ℕ
    to = from + K.w

    pub block_asks : ((length K.ms ≡ 2 * n) × Usable K.ms K.tol) × (((from + 2 ≤ to) × (to ≤ n) × (n ≤ most_numbered))
        × ((to ≡ from + length (take (to - from) (drop from P₁))) × (length (take (to - from) (drop from P₁)) ≤ 201) × (record_numbers * length (take (to - from) (drop from P₁)) ≤ length CC + record_numbers) × (length (take (to - from) (drop from P₁)) ≤ length FF + 1) × (length (take (to - from) (drop from P₁)) ≤ length WW + 1)))
    block_asks =
        let m = numbers in
        let lp = m.lp in
        let d : to - from ≡ K.w = omega arith in
        let bp : length (take (to - from) (drop from P₁)) ≡ K.w = part_len from (to - from) P₁ (omega (arith, m)) ∙ d in
        let bc : length CC ≡ length C₁ - record_numbers * made = part_len (record_numbers * made) _ C₁ (omega (arith, m)) in
        let bf : length FF ≡ length F₁ - made = part_len made _ F₁ (omega (arith, m)) in
        let bw : length WW ≡ length W₁ - made = part_len made _ W₁ (omega (arith, m)) in
        ((omega (arith, m), A.ready.usable), ((omega (arith, m), omega (arith, m), omega (arith, m)), (omega (arith, m), omega (arith, m), omega (arith, m), omega (arith, m), omega (arith, m))))

    module _ (R : Ran to (to - from)) where
      abbrev did : (j : ℕ) → R.r ≡ Ok j → Done (block K from to) j CC R.D₁ FF R.E₁ WW R.V₁ R.p
      did j e = is_done (block K from to) R.r j CC R.D₁ FF R.E₁ WW R.V₁ R.p R.left e

      pub so_stops : (q : Refusal) → R.r ≡ Err q → (C₂ : List Float) (F₂ W₂ : List ℕ) (P₂ : List Float) → Left (blocks_of K.k K.ms K.size K.tol) R.r K.C C₂ K.F F₂ K.W W₂ P₂
      so_stops q e C₂ F₂ W₂ P₂ = rw (whole_is K A, so.whole, rest_more K A from more, is_refused (block K from to) R.r q CC R.D₁ FF R.E₁ WW R.V₁ R.p R.left e) (ap answer e)

      sized : (c : List Float) (b : List Beside) → block K from to ≡ done c b R.p → Sizes K.w c b R.p
      sized c b q =
          let m = numbers in
          let z = block_sized K.k K.ms n K.size K.tol from to c b R.p (omega (arith, m)) A.ready.usable (omega (arith, m)) (omega (arith, m)) q in
          let d : to - from ≡ K.w = omega arith in
          (z.0, omega (arith, z.1), z.2, z.3 ∙ d)

      pub so_few : (j : ℕ) → R.r ≡ Ok j → j ≤ K.size
      so_few j e =
          let D = did j e in
          let m = numbers in
          omega (arith, sized D.cs D.bs D.is, D.long, m)

      pub so_more : (j : ℕ) → R.r ≡ Ok j → Sofar K (from + K.size) (made + j) (C₂ R) (F₂ R) (W₂ R) (P₂ R)
      so_more j e =
          let D = did j e in
          let z = sized D.cs D.bs D.is in
          let m = numbers in
          let next = rest K (from + K.size) in
          let each = so.each in
          let nine = so.nine in
          let long = so.long in
          let pl : length R.p ≡ K.w = z.3 in
          record {
            cs = so.cs ++ D.cs;
            bs = so.bs ++ D.bs;
            ps = so.ps ++ take K.size R.p;
            whole = so.whole ∙ ap (prepend so.cs so.bs so.ps) (rest_more K A from more ∙ ap (λ (R : Run). join K.size R next) D.is ∙ join_prepend K.size D.cs D.bs R.p next) ∙ prepend_twice so.cs D.cs so.bs D.bs so.ps (take K.size R.p) next;
            nine = simp length-append (omega (arith, z.2, D.long));
            long = simp length-append (omega (arith, D.long));
            each = simp (length-append, length-take) (omega (arith, m));
            curves = written_behind so.cs D.cs K.C C₁ R.D₁ (record_numbers * made) (length C₁ - record_numbers * made) so.curves so.nine refl D.curves;
            firsts = beside-behind (λ b. b.first) so.bs D.bs K.F F₁ R.E₁ made (length F₁ - made) so.firsts so.long refl D.firsts;
            worsts = beside-behind (λ b. b.worst) so.bs D.bs K.W W₁ R.V₁ made (length W₁ - made) so.worsts so.long refl D.worsts;
            front = take_behind from K.size (take from P₁) so.ps R.p _ so.front so.each (omega (arith, m));
            few = omega (arith, m, so_few j e);
            ahead = omega (arith, m);
            lc = as_long_curves R;
            lf = as_long_firsts R;
            lw = as_long_worsts R;
            lp = as_long_params R (omega (arith, m));
          }

  -- ---- the last block
  module _ (stop : n - from ≤ K.w) where
    all_is : blocks_of K.k K.ms K.size K.tol ≡ prepend so.cs so.bs so.ps (last_of (ltb (n - from) 2) K.k K.ms n K.tol from)
    all_is =
        let m = numbers in
        whole_is K A ∙ so.whole ∙ ap (prepend so.cs so.bs so.ps) (rest_last K A from (omega (arith, m)) stop)

    -- a single mark
    pub last_one : n - from < 2 → Left (blocks_of K.k K.ms K.size K.tol) (Ok made) K.C C₁ K.F F₁ K.W W₁ (set P₁ from f0)
    last_one h =
        let m = numbers in
        let one : length P₁ ≡ from + 1 = omega (arith, m) in
        let p : set P₁ from f0 ≡ so.ps ++ (f0 ∷ []) = set_last from f0 P₁ one ∙ rw so.front in
        let is : blocks_of K.k K.ms K.size K.tol ≡ done so.cs so.bs (so.ps ++ (f0 ∷ [])) = all_is ∙ rw (lt-ltb (n - from) 2 h, append-nil so.cs, append-nil so.bs) in
        rw is (ap Ok (sym so.long), so.curves, so.firsts, so.worsts, p)

    module _ (some : 2 ≤ n - from) where
      pub last_asks : ((length K.ms ≡ 2 * n) × Usable K.ms K.tol) × (((from + 2 ≤ n) × (n ≤ n) × (n ≤ most_numbered))
          × ((n ≡ from + length (take (length P₁ - from) (drop from P₁))) × (length (take (length P₁ - from) (drop from P₁)) ≤ 201) × (record_numbers * length (take (length P₁ - from) (drop from P₁)) ≤ length CC + record_numbers) × (length (take (length P₁ - from) (drop from P₁)) ≤ length FF + 1) × (length (take (length P₁ - from) (drop from P₁)) ≤ length WW + 1)))
      last_asks =
          let m = numbers in
          let bp : length (take (length P₁ - from) (drop from P₁)) ≡ length P₁ - from = part_len from _ P₁ (omega (arith, m)) in
          let bc : length CC ≡ length C₁ - record_numbers * made = part_len (record_numbers * made) _ C₁ (omega (arith, m)) in
          let bf : length FF ≡ length F₁ - made = part_len made _ F₁ (omega (arith, m)) in
          let bw : length WW ≡ length W₁ - made = part_len made _ W₁ (omega (arith, m)) in
          ((omega (arith, m), A.ready.usable), ((omega (arith, m), omega arith, omega (arith, m)), (omega (arith, m), omega (arith, m), omega (arith, m), omega (arith, m), omega (arith, m))))

      whole_last : blocks_of K.k K.ms K.size K.tol ≡ prepend so.cs so.bs so.ps (block K from n)
      whole_last = all_is ∙ rw (le-ltb (n - from) 2 some)

      module _ (R : Ran n (length P₁ - from)) where
        abbrev ended : (j : ℕ) → R.r ≡ Ok j → Done (block K from n) j CC R.D₁ FF R.E₁ WW R.V₁ R.p
        ended j e = is_done (block K from n) R.r j CC R.D₁ FF R.E₁ WW R.V₁ R.p R.left e

        pub last_stops : (q : Refusal) → R.r ≡ Err q → (C₂ : List Float) (F₂ W₂ : List ℕ) (P₂ : List Float) → Left (blocks_of K.k K.ms K.size K.tol) R.r K.C C₂ K.F F₂ K.W W₂ P₂
        last_stops q e C₂ F₂ W₂ P₂ = rw (whole_last, is_refused (block K from n) R.r q CC R.D₁ FF R.E₁ WW R.V₁ R.p R.left e) (ap answer e)

        pub last_done : (j : ℕ) → R.r ≡ Ok j → Left (blocks_of K.k K.ms K.size K.tol) (Ok (made + j)) K.C (C₂ R) K.F (F₂ R) K.W (W₂ R) (P₂ R)
        last_done j e =
            let D = ended j e in
            let none : drop (length P₁ - from) (drop from P₁) ≡ [] = drop_of_length-le (drop from P₁) {i = length P₁ - from} (simp length-drop (omega arith)) in
            let is : blocks_of K.k K.ms K.size K.tol ≡ done (so.cs ++ D.cs) (so.bs ++ D.bs) (so.ps ++ R.p) = whole_last ∙ ap (prepend so.cs so.bs so.ps) D.is in
            let many : made + j ≡ length (so.bs ++ D.bs) = simp length-append (omega (arith, so.long, D.long)) in
            let pe : P₂ R ≡ so.ps ++ R.p = rw (none, append-nil, so.front) in
            rw is (
              ap Ok many,
              written_behind so.cs D.cs K.C C₁ R.D₁ (record_numbers * made) (length C₁ - record_numbers * made) so.curves so.nine refl D.curves,
              beside-behind (λ b. b.first) so.bs D.bs K.F F₁ R.E₁ made (length F₁ - made) so.firsts so.long refl D.firsts,
              beside-behind (λ b. b.worst) so.bs D.bs K.W W₁ R.V₁ made (length W₁ - made) so.worsts so.long refl D.worsts,
              pe,
            )
