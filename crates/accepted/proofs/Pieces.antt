-- What a laid list holds, curve by curve and mark by mark, wherever its numbers stand at the front of longer slices. Assumes nothing.
use mathlib.Core.Path.{◌≡◌, refl, sym, ap, subst, ◌∙◌}
use mathlib.Core.Bool.{Bool, true, false, cond}
use mathlib.Core.List.{List, ◌∷◌, ◌++◌, append_assoc}
use Prim.Native.Nat.{ℕ, zero, suc, ◌+◌, ◌-◌, ◌*◌, ◌≤◌, ◌<◌}
use native.Mathlib.Omega.{arith}
use lib.ListN.{length, drop, get_or, get_or-append}
use lib.Seq.{get_or-append-add, drop-drop}
use lib.Dec.{ltb, leb-suc-suc}
use lib.Ieee.{Float, nan}
use borrow.Author.Tests.{lt-ltb, ltb-true, ltb-false}
use Rattle.plane.specs.declared.Point.{Point}
use Rattle.plane.specs.declared.Curve.{Curve}
use Rattle.marks.specs.Marks.{mark_at}
use Rattle.form.specs.Form.{curve_numbers, record_numbers}
use Rattle.form.specs.declared.Form.TheVariants.{Nine}
use Rattle.cut.specs.Run.{Beside, firsts_of, worsts_of, flat}
use Rattle.stages.specs.Worst.{error_of}
use Rattle.stages.specs.declared.worst.Worst.{Worst}
use Rattle.squares.proofs.Controls.{GoodCurve}
use Rattle.numbers.specs.Words.{one, Zero, InUnit}
use Rattle.ends.specs.Ends.{Near, rooted}
use Rattle.faults.specs.Tests.{first_at, worst_mark_at, curve_of, curve_at, far_at, last_at, stop_at, farther, unmeasured}
use Rattle.faults.proofs.Farther.{farther_same}
use Rattle.accepted.proofs.Laid.{squares, Over, Laid, last, more, laid-rises}

-- ---- a list that begins with one curve

module _ (c : Curve) (x : Float) (C : List Float) where
  curve_first : curve_at Nine (flat c x ++ C) 0 ≡ c
  unfolding curve_at curve_of mark_at
  curve_first = refl

  far_first : far_at (flat c x ++ C) 0 ≡ x
  far_first = refl

  curve_next : (j : ℕ) → curve_at Nine (flat c x ++ C) (suc j) ≡ curve_at Nine C j
  unfolding curve_at
  curve_next j =
      let e : record_numbers * suc j ≡ record_numbers + record_numbers * j = omega arith in
      ap curve_of (ap (λ (n : ℕ). drop n (flat c x ++ C)) e ∙ sym (drop-drop (record_numbers * j) record_numbers (flat c x ++ C)))

  far_next : (j : ℕ) → far_at (flat c x ++ C) (suc j) ≡ far_at C j
  far_next j =
      let e : record_numbers * suc j + curve_numbers ≡ length (flat c x) + (record_numbers * j + curve_numbers) = omega arith in
      ap (λ (k : ℕ). get_or (flat c x ++ C) k nan) e ∙ get_or-append-add (flat c x) C (record_numbers * j + curve_numbers) nan

module _ (n k : ℕ) (f : ℕ) (F : List ℕ) (j : ℕ) where
  last_next : last_at n (suc k) (f ∷ F) (suc j) ≡ last_at n k F j
  unfolding last_at
  last_next = ap (λ (b : Bool). cond b (first_at F (suc j)) (n - 1)) (leb-suc-suc (suc (suc j)) k)

  stop_next : stop_at n (suc k) (f ∷ F) (suc j) ≡ stop_at n k F j
  unfolding stop_at
  stop_next = ap (λ (b : Bool). cond b (first_at F (suc j)) n) (leb-suc-suc (suc (suc j)) k)

-- the first of several ends where the next begins
more_than_one : (k : ℕ) → 0 < k → ltb 1 (suc k) ≡ true
more_than_one k h = lt-ltb 1 (suc k) (omega arith)

module _ (n k f g : ℕ) (F : List ℕ) (some : 0 < k) (next : first_at F 0 ≡ g) where
  last_first : last_at n (suc k) (f ∷ F) 0 ≡ g
  unfolding last_at
  last_first = ap (λ (b : Bool). cond b (first_at F 0) (n - 1)) (more_than_one k some) ∙ next

  stop_first : stop_at n (suc k) (f ∷ F) 0 ≡ g
  unfolding stop_at
  stop_first = ap (λ (b : Bool). cond b (first_at F 0) n) (more_than_one k some) ∙ next

-- past the parameters of the first curve
param_next : (p P : List Float) (f g i : ℕ) → length p ≡ g - f → f < g → g ≤ i → get_or (p ++ P) (i - f) nan ≡ get_or P (i - g) nan
param_next p P f g i m l h =
    let x : i - f ≡ length p + (i - g) = omega arith in
    ap (λ (k : ℕ). get_or (p ++ P) k nan) x ∙ get_or-append-add p P (i - g) nan

-- ---- what is to be known of curve j of k, of n marks, where the list begins at mark f

-- what record j keeps
abbrev kept_with : Float → ℕ → Worst
kept_with x k = record { err = x; at = k }

abbrev pub kept_at : List Float → List ℕ → ℕ → Worst
kept_at C W j = kept_with (far_at C j) (worst_mark_at W j)

-- the squares of the marks from mark a on, where the parameters begin at mark f
abbrev pub squares_from : List Float → Curve → ℕ → List Float → ℕ → ℕ → Float
squares_from ws c f P a i = (error_of (mark_at ws (a + i)) c (get_or P (a + i - f) nan)).val

pub record Piece (ws : List Float) (tol : Float) (n f k : ℕ) (C : List Float) (F W : List ℕ) (P : List Float) (j : ℕ) : Type 0 where
  pub low : f ≤ first_at F j
  pub two : first_at F j < last_at n k F j
  pub under : first_at F j < stop_at n k F j
  pub begins : (curve_at Nine C j).start ≡ mark_at ws (first_at F j)
  pub ends : (curve_at Nine C j).end ≡ mark_at ws (last_at n k F j)
  pub good : GoodCurve (curve_at Nine C j)
  pub zero_first : Zero (get_or P (first_at F j - f) nan)
  pub near : (i : ℕ) → first_at F j ≤ i → i < stop_at n k F j → Near tol (mark_at ws i) (curve_at Nine C j) (get_or P (i - f) nan)
  pub far : kept_at C W j ≡ rooted (farther (unmeasured (first_at F j)) (squares_from ws (curve_at Nine C j) f P (first_at F j)) (first_at F j) (stop_at n k F j - first_at F j))

module _ (ws : List Float) (tol : Float) (n : ℕ) where
  -- the first curve
  piece_first : (c : Curve) (w : Worst) (f m e k : ℕ) (C : List Float) (F W : List ℕ) (p P : List Float) → Over ws tol c w f m p → 0 < m → f < e → c.end ≡ mark_at ws e → last_at n k (f ∷ F) 0 ≡ e
      → stop_at n k (f ∷ F) 0 ≡ f + m → Piece ws tol n f k (flat c w.err ++ C) (f ∷ F) (w.at ∷ W) (p ++ P) 0
  piece_first c w f m e k C F W p P o z l end at_last at-stop =
      let many = o.many in
      let x : f - f ≡ 0 = omega arith in
      let first = curve_first c w.err C in
      let stops : stop_at n k (f ∷ F) 0 - f ≡ m = ap (λ (x : ℕ). x - f) at-stop ∙ (let q : f + m - f ≡ m = omega arith in q) in
      record {
        low = omega arith;
        two = subst (λ (x : ℕ). f < x) (sym at_last) l;
        under = subst (λ (x : ℕ). f < x) (sym at-stop) (omega arith);
        begins = ap (λ (c : Curve). c.start) first ∙ o.start;
        ends = ap (λ (c : Curve). c.end) first ∙ end ∙ ap (mark_at ws) (sym at_last);
        good = subst GoodCurve (sym first) o.good;
        zero_first = subst Zero (sym (ap (λ (k : ℕ). get_or (p ++ P) k nan) x ∙ get_or-append p P nan 0 (omega arith))) o.first;
        near = λ i a b.
            let b' : i < f + m = subst (λ (x : ℕ). i < x) at-stop b in
            let y : f + (i - f) ≡ i = omega arith in
            let h : i - f < m = omega arith in
            subst (λ (c : Curve). Near tol (mark_at ws i) c (get_or (p ++ P) (i - f) nan)) (sym first)
            (subst (λ (q : Point). Near tol q c (get_or (p ++ P) (i - f) nan)) (ap (mark_at ws) y)
            (subst (Near tol (mark_at ws (f + (i - f))) c) (sym (get_or-append p P nan (i - f) (omega arith))) (o.near (i - f) h)));
        far =
            o.far
            ∙ ap rooted (farther_same (unmeasured f) (squares ws c f p) (squares_from ws c f (p ++ P) f) f m (λ i b.
            let y : f + i - f ≡ i = omega arith in
            ap (λ (t : Float). (error_of (mark_at ws (f + i)) c t).val) (sym (ap (λ (k : ℕ). get_or (p ++ P) k nan) y ∙ get_or-append p P nan i (omega arith))))
            ∙ sym (ap (λ (d : Curve). farther (unmeasured f) (squares_from ws d f (p ++ P) f) f m) first)
            ∙ ap (farther (unmeasured f) (squares_from ws (curve_at Nine (flat c w.err ++ C) 0) f (p ++ P) f) f) (sym stops));
      }

  -- the others
  piece_next : (c : Curve) (w : Worst) (f g k : ℕ) (C : List Float) (F W : List ℕ) (p P : List Float) (j : ℕ) → length p ≡ g - f → f < g → Piece ws tol n g k C F W P j
      → Piece ws tol n f (suc k) (flat c w.err ++ C) (f ∷ F) (w.at ∷ W) (p ++ P) (suc j)
  piece_next c w f g k C F W p P j m l q =
      let low = q.low in
      let a = first_at F j in
      let next = curve_next c w.err C j in
      record {
        low = omega arith;
        two = subst (λ (x : ℕ). first_at F j < x) (sym (last_next n k f F j)) q.two;
        under = subst (λ (x : ℕ). first_at F j < x) (sym (stop_next n k f F j)) q.under;
        begins = ap (λ (c : Curve). c.start) next ∙ q.begins;
        ends = ap (λ (c : Curve). c.end) next ∙ q.ends ∙ ap (mark_at ws) (sym (last_next n k f F j));
        good = subst GoodCurve (sym next) q.good;
        zero_first = subst Zero (sym (param_next p P f g (first_at F j) m l low)) q.zero_first;
        near = λ i a b.
            subst (λ (c : Curve). Near tol (mark_at ws i) c (get_or (p ++ P) (i - f) nan)) (sym next)
            (subst (Near tol (mark_at ws i) (curve_at Nine C j)) (sym (param_next p P f g i m l (omega arith))) (q.near i a (subst (λ (x : ℕ). i < x) (stop_next n k f F j) b)));
        far =
            ap (λ (x : Float). kept_with x (worst_mark_at W j)) (far_next c w.err C j)
            ∙ q.far
            ∙ ap rooted (farther_same (unmeasured a) (squares_from ws (curve_at Nine C j) g P a) (squares_from ws (curve_at Nine C j) f (p ++ P) a) a (stop_at n k F j - a) (λ i b.
            ap (λ (t : Float). (error_of (mark_at ws (a + i)) (curve_at Nine C j) t).val) (sym (param_next p P f g (a + i) m l (omega arith))))
            ∙ sym (ap (λ (d : Curve). farther (unmeasured a) (squares_from ws d f (p ++ P) a) a (stop_at n k F j - a)) next)
            ∙ ap (λ (x : ℕ). farther (unmeasured a) (squares_from ws (curve_at Nine (flat c w.err ++ C) (suc j)) f (p ++ P) a) a (x - a)) (sym (stop_next n k f F j)));
      }

  -- ---- the laid list, at the front of longer slices
  module _ (some : 0 < n) (X : List Float) (Y U : List ℕ) (Z : List Float) where
    pub laid_first : {f e : ℕ} {cs : List Float} {bs : List Beside} {ps : List Float} → Laid ws tol f e cs bs ps → first_at (firsts_of bs ++ Y) 0 ≡ f
    laid_first (last c w l a o y z) = refl
    laid_first (more c w l a o r) = refl

    pub laid_some : {f e : ℕ} {cs : List Float} {bs : List Beside} {ps : List Float} → Laid ws tol f e cs bs ps → 0 < length bs
    laid_some (last c w l a o y z) = omega arith
    laid_some (more c w l a o r) = omega arith

    pub laid_one : {f e : ℕ} {cs : List Float} {bs : List Beside} {ps : List Float} → Laid ws tol f e cs bs ps → get_or (ps ++ Z) (e - f) nan ≡ one
    laid_one (last {f = f} {e = e} {p = p} c w l a o y z) = let m = o.many in get_or-append p Z nan (e - f) (omega arith) ∙ z
    laid_one (more {f = f} {g = g} {e = e} {p = p} {ps = ps} c w l a o r) =
        let k = laid-rises r in
        ap (λ (x : List Float). get_or x (e - f) nan) (append_assoc p ps Z) ∙ param_next p (ps ++ Z) f g e o.many l (omega arith) ∙ laid_one r

    pub laid-unit : {f e : ℕ} {cs : List Float} {bs : List Beside} {ps : List Float} → Laid ws tol f e cs bs ps → (i : ℕ) → f ≤ i → i ≤ e → InUnit (get_or (ps ++ Z) (i - f) nan)
    laid-unit (last {f = f} {e = e} {p = p} c w l a o y z) i h k = let m = o.many in subst InUnit (sym (get_or-append p Z nan (i - f) (omega arith))) (o.unit (i - f) (omega arith))
    laid-unit (more {f = f} {g = g} {e = e} {p = p} {ps = ps} c w l a o r) i h k =
        subst (λ (x : List Float). InUnit (get_or x (i - f) nan)) (sym (append_assoc p ps Z)) (go (ltb i g) refl (λ j. laid-unit r i j k))
      where
        go : (b : Bool) → ltb i g ≡ b → (g ≤ i → InUnit (get_or (ps ++ Z) (i - g) nan)) → InUnit (get_or (p ++ (ps ++ Z)) (i - f) nan)
        go true q R = let m = o.many in let s = ltb-true i g q in subst InUnit (sym (get_or-append p (ps ++ Z) nan (i - f) (omega arith))) (o.unit (i - f) (omega arith))
        go false q R = let s = ltb-false i g q in subst InUnit (sym (param_next p (ps ++ Z) f g i o.many l s)) (R s)

    pub laid_piece : {f : ℕ} {cs : List Float} {bs : List Beside} {ps : List Float} → Laid ws tol f (n - 1) cs bs ps → (j : ℕ) → j < length bs → Piece ws tol n f (length bs) (cs ++ X) (firsts_of bs ++ Y) (worsts_of bs ++ U) (ps ++ Z) j
    unfolding last_at stop_at
    laid_piece (last {f = f} {p = p} c w l a o y z) zero h = piece_first c w f (suc (n - 1 - f)) (n - 1) 1 X Y U p Z o (omega arith) l a refl (let q : n ≡ f + suc (n - 1 - f) = omega arith in q)
    laid_piece (last c w l a o y z) (suc j) h = absurd (omega arith)
    laid_piece (more {f = f} {g = g} {cs = cs} {bs = bs} {p = p} {ps = ps} c w l a o r) zero h =
        subst (λ (x : List Float). Piece ws tol n f (suc (length bs)) (flat c w.err ++ (cs ++ X)) (f ∷ (firsts_of bs ++ Y)) (w.at ∷ (worsts_of bs ++ U)) x 0) (sym (append_assoc p ps Z))
        (piece_first c w f (g - f) g (suc (length bs)) (cs ++ X) (firsts_of bs ++ Y) (worsts_of bs ++ U) p (ps ++ Z) o (omega arith) l a
        (last_first n (length bs) f g (firsts_of bs ++ Y) (laid_some r) (laid_first r)) (stop_first n (length bs) f g (firsts_of bs ++ Y) (laid_some r) (laid_first r) ∙ (let q : g ≡ f + (g - f) = omega arith in q)))
    laid_piece (more {f = f} {g = g} {cs = cs} {bs = bs} {p = p} {ps = ps} c w l a o r) (suc j) h =
        subst (λ (x : List Float). Piece ws tol n f (suc (length bs)) (flat c w.err ++ (cs ++ X)) (f ∷ (firsts_of bs ++ Y)) (w.at ∷ (worsts_of bs ++ U)) x (suc j)) (sym (append_assoc p ps Z))
        (piece_next c w f g (length bs) (cs ++ X) (firsts_of bs ++ Y) (worsts_of bs ++ U) p (ps ++ Z) j o.many l (laid_piece r j (omega arith)))
