-- Curves laid over marks, one after the other, with every mark near its curve, and the worst of them kept with it: what a run leaves. Two such lists, where one ends at the mark at which the
-- other begins, are laid as one. Assumes nothing.
use mathlib.Core.Path.{◌≡◌, refl, sym, ap, subst, ◌∙◌}
use mathlib.Core.List.{List, [], ◌∷◌, ◌++◌, append_assoc}
use Prim.Native.Nat.{ℕ, suc, ◌+◌, ◌-◌, ◌*◌, ◌<◌}
use native.Mathlib.Omega.{arith}
use lib.ListN.{length, take, get_or, length-append}
use lib.Seq.{length-take-le, take-append-add, get_or-take}
use lib.Ieee.{Float, nan}
use Rattle.plane.specs.declared.Curve.{Curve}
use Rattle.marks.specs.Marks.{mark_at}
use Rattle.cut.specs.Run.{Beside, beside, flat}
use Rattle.stages.specs.Worst.{error_of}
use Rattle.stages.specs.declared.worst.Worst.{Worst}
use Rattle.faults.specs.Tests.{farther, unmeasured}
use Rattle.form.specs.Form.{record_numbers}
use Rattle.squares.proofs.Controls.{GoodCurve}
use Rattle.numbers.specs.Words.{one, Zero, InUnit}
use Rattle.ends.specs.Ends.{Near, rooted}
use Rattle.faults.proofs.Farther.{farther_same}

-- the squares of the marks from mark f on, at the parameters p
abbrev pub squares : List Float → Curve → ℕ → List Float → ℕ → Float
squares ws c f p i = (error_of (mark_at ws (f + i)) c (get_or p i nan)).val

-- w is the worst of m marks from mark f on, with its distance
abbrev pub Far : List Float → Curve → Worst → ℕ → List Float → ℕ → Type 0
Far ws c w f p m = w ≡ rooted (farther (unmeasured f) (squares ws c f p) f m)

-- a finite curve that starts at mark f of ws, and m marks from there on, near it at the parameters p, of which the first is a zero; w is the worst of them
pub record Over (ws : List Float) (tol : Float) (c : Curve) (w : Worst) (f m : ℕ) (p : List Float) : Type 0 where
  pub good : GoodCurve c
  pub start : c.start ≡ mark_at ws f
  pub many : length p ≡ m
  pub first : Zero (get_or p 0 nan)
  pub unit : (i : ℕ) → i < m → InUnit (get_or p i nan)
  pub near : (i : ℕ) → i < m → Near tol (mark_at ws (f + i)) c (get_or p i nan)
  pub far : Far ws c w f p m

-- from mark f to mark e: the last curve has mark e too, at the parameter 1, and what it keeps is the worst of the marks before e as well; any other leaves the mark where it ends to the next
pub data Laid (ws : List Float) (tol : Float) : ℕ → ℕ → List Float → List Beside → List Float → Type 0 where
  last : {f e : ℕ} {p : List Float} (c : Curve) (w : Worst) → f < e → c.end ≡ mark_at ws e → Over ws tol c w f (suc (e - f)) p → Far ws c w f p (e - f) → get_or p (e - f) nan ≡ one
      → Laid ws tol f e (flat c w.err) (beside f w.at ∷ []) p
  more : {f g e : ℕ} {cs : List Float} {bs : List Beside} {p ps : List Float} (c : Curve) (w : Worst) → f < g → c.end ≡ mark_at ws g → Over ws tol c w f (g - f) p → Laid ws tol g e cs bs ps
      → Laid ws tol f e (flat c w.err ++ cs) (beside f w.at ∷ bs) (p ++ ps)

pub laid-rises : {ws : List Float} {tol : Float} {f e : ℕ} {cs : List Float} {bs : List Beside} {ps : List Float} → Laid ws tol f e cs bs ps → f < e
laid-rises (last c w l a o y z) = l
laid-rises (more c w l a o r) = let k = laid-rises r in omega arith

pub laid_many : {ws : List Float} {tol : Float} {f e : ℕ} {cs : List Float} {bs : List Beside} {ps : List Float} → Laid ws tol f e cs bs ps → length ps ≡ suc (e - f)
laid_many (last c w l a o y z) = o.many
laid_many (more {f = f} {g = g} {e = e} {p = p} {ps = ps} c w l a o r) =
    let k = laid-rises r in
    let m = laid_many r in
    let n = o.many in
    length-append p ps ∙ omega arith

-- nine numbers a curve
pub laid-curves : {ws : List Float} {tol : Float} {f e : ℕ} {cs : List Float} {bs : List Beside} {ps : List Float} → Laid ws tol f e cs bs ps → length cs ≡ record_numbers * length bs
laid-curves (last c w l a o y z) = refl
laid-curves (more {cs = cs} c w l a o r) = let n = laid-curves r in length-append (flat c w.err) cs ∙ omega arith

-- of the marks over one curve, all but the last
over-less : (ws : List Float) (tol : Float) (c : Curve) (w : Worst) (f m : ℕ) (p : List Float) → 0 < m → Over ws tol c w f (suc m) p → Far ws c w f p m → Over ws tol c w f m (take m p)
over-less ws tol c w f m p z o y =
    let n = o.many in
    record {
      good = o.good;
      start = o.start;
      many = length-take-le m p (omega arith);
      first = subst Zero (sym (get_or-take m p 0 nan z)) o.first;
      unit = λ i l. subst InUnit (sym (get_or-take m p i nan l)) (o.unit i (omega arith));
      near = λ i l. subst (Near tol (mark_at ws (f + i)) c) (sym (get_or-take m p i nan l)) (o.near i (omega arith));
      far = y ∙ ap rooted (farther_same (unmeasured f) (squares ws c f p) (squares ws c f (take m p)) f m (λ i l. ap (λ (t : Float). (error_of (mark_at ws (f + i)) c t).val) (sym (get_or-take m p i nan l))));
    }

pub laid_append : {ws : List Float} {tol : Float} {f g e : ℕ} {cs cs' : List Float} {bs bs' : List Beside} {ps ps' : List Float} → Laid ws tol f g cs bs ps → Laid ws tol g e cs' bs' ps'
    → Laid ws tol f e (cs ++ cs') (bs ++ bs') (take (g - f) ps ++ ps')
laid_append {ws = ws} {tol = tol} {f = f} {g = g} (last {p = p} c w l a o y z) r = more c w l a (over-less ws tol c w f (g - f) p (omega arith) o y) r
laid_append {ws = ws} {tol = tol} {f = f} {g = g} {e = e} {cs' = cs'} {bs' = bs'} {ps' = ps'} (more {g = h} {cs = cs} {bs = bs} {p = p} {ps = ps} c w l a o q) r =
    let k = laid-rises q in
    let m = o.many in
    let n : g - f ≡ length p + (g - h) = omega arith in
    let same : p ++ (take (g - h) ps ++ ps') ≡ take (g - f) (p ++ ps) ++ ps' =
    sym (append_assoc p (take (g - h) ps) ps') ∙ ap (λ (x : List Float). x ++ ps') (sym (ap (λ (x : ℕ). take x (p ++ ps)) n ∙ take-append-add p ps (g - h))) in
    subst (λ (x : List Float). Laid ws tol f e (flat c w.err ++ (cs ++ cs')) (beside f w.at ∷ (bs ++ bs')) x) same (more c w l a o (laid_append q r))
