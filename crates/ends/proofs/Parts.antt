-- What a part comes to, of marks in range and a tolerance: a curve that is near every mark, a cut between its end marks, or 6. Assumes nothing.
use mathlib.Core.Path.{◌≡◌, refl, sym, ap, ◌∙◌, subst}
use mathlib.Core.Bool.{Bool, true, false, true≢false}
use mathlib.Core.List.{List}
use Prim.Native.Nat.{ℕ, zero, suc, ◌+◌, ◌-◌, ◌≤◌, ◌<◌}
use native.Mathlib.Omega.{arith}
use lib.Dec.{leb}
use lib.ListN.{length, get_or}
use lib.Ieee.{Float, nan, binary64, le}
use borrow.Author.Tests.{leb-true}
use Rattle.float.specs.Number.{f0}
use Rattle.float.specs.Answer.{ok, unless, outcome}
use Rattle.float.proofs.Ranks.{Le}
use Rattle.root.specs.Root.{sqrt}
use Rattle.plane.specs.declared.Point.{Point}
use Rattle.plane.specs.declared.Curve.{Curve}
use Rattle.marks.specs.Marks.{count, mark_at}
use Rattle.marks.specs.Line.{line_of}
use Rattle.stages.specs.declared.worst.Worst.{Worst}
use Rattle.squares.proofs.Controls.{GoodCurve}
use Rattle.part.specs.Trial.{Trial, tried}
use Rattle.part.specs.Part.{Part, fits, cuts, fails, pick, lined, judged, part_of}
use Rattle.gate.specs.Gate.{Usable}
use Rattle.ends.specs.Ends.{Params, Near, worst_of, rooted}
use Rattle.ends.specs.Rounds.{EndsStay, Inside, CutsInside}
use Rattle.ends.proofs.Worst.{root-zero, within, max_is, max-less, worst_among, none_off}
use Rattle.ends.proofs.Lines.{line-near, line-far, line-far-less, line_good, line-params}
use Rattle.ends.proofs.Usable.{not_below, marked}
use Rattle.ends.proofs.Trials.{Kept, round-kept, kept_stays, end_in_round}

-- one curve from the first mark to the last, near every mark
pub record Fits (ms : List Float) (tol : Float) (c : Curve) (w : Worst) (ps : List Float) : Type 0 where
  pub start : c.start ≡ mark_at ms 0
  pub end : c.end ≡ mark_at ms (count ms - 1)
  pub good : GoodCurve c
  pub many : length ps ≡ count ms
  pub params : Params ps
  pub near : (k : ℕ) → k < count ms → Near tol (mark_at ms k) c (get_or ps k nan)
  -- what is kept is the worst of all marks, and of all but the last, which is off by nothing
  pub far : w ≡ rooted (worst_of ms c ps (count ms))
  pub far-less : w ≡ rooted (worst_of ms c ps (count ms - 1))
  pub among : w.at < count ms

abbrev pub Sound : List Float → Float → Part → Type 0
Sound ms tol (fits c w ps) = Fits ms tol c w ps
Sound ms tol (cuts k) = Inside ms k
Sound ms tol (fails q) = q ≡ 6

module _ (ms : List Float) (tol : Float) (two : 2 ≤ count ms) (u : Usable ms tol) where
  t : Le f0 tol
  t = not_below tol u.tolerance

  lined-sound : (b : Bool) → count ms ≡ 2 → Sound ms tol (lined (unless 6 b (ok (line_of (mark_at ms 0) (mark_at ms 1)).val)))
  unfolding line_of
  lined-sound false n = refl
  lined-sound true n =
      let m0 = marked ms u.near 0 (omega arith) in
      let m1 = marked ms u.near 1 (omega arith) in
      let last : 1 ≡ count ms - 1 = omega arith in
      record {
        start = refl;
        end = ap (mark_at ms) last;
        good = line_good ms tol t m0.1 m1.1 m0.0 m1.0;
        many = sym n;
        params = line-params;
        near = λ k l. line-near ms tol t m0.1 m1.1 m0.0 m1.0 k (omega arith);
        far = rw n (line-far ms tol t m0.1 m1.1 m0.0 m1.0);
        far-less = rw n (line-far-less ms tol t m0.1 m1.1 m0.0 m1.0);
        among = omega arith;
      }

  module _ (a : Trial) (k : Kept ms (count ms) a) where
    stay : EndsStay ms a
    stay = kept_stays ms two a k

    far_all : a.far ≡ rooted (worst_of ms a.curve a.params (count ms))
    far_all = k.far ∙ max_is ms a.curve a.params ∙ ap (λ (n : ℕ). rooted (worst_of ms a.curve a.params n)) k.many

    far_but_last : a.far ≡ rooted (worst_of ms a.curve a.params (count ms - 1))
    far_but_last = k.far ∙ max-less ms a.curve a.params (count ms - 1) (let many = k.many in omega arith) k.fine stay.last_off

    -- the worst mark is not the last one
    before_last : a.far.at + 1 < count ms
    before_last =
        let e : a.far.at ≡ (worst_of ms a.curve a.params (count ms - 1)).at = ap (λ (w : Worst). w.at) far_but_last in
        let l = worst_among ms a.curve a.params (count ms - 1) in
        omega arith

    -- nor the first, where one is off by more than the tolerance
    behind_first : le a.far.err tol ≡ false → 0 < a.far.at
    behind_first h = go a.far.at refl
      where
        go : (i : ℕ) → a.far.at ≡ i → 0 < i
        go zero e =
            let none = none_off ms a.curve a.params stay.first_off (count ms) (sym (ap (λ (w : Worst). w.at) far_all) ∙ e) in
            let err : a.far.err ≡ f0 = ap (λ (w : Worst). w.err) far_all ∙ ap (sqrt binary64) none ∙ root-zero in
            absurd (true≢false (sym (subst (λ (x : Float). Le x tol) (sym err) t) ∙ h))
        go (suc i) e = omega arith

    kept-fits : Le a.far.err tol → Fits ms tol a.curve a.far a.params
    kept-fits l = record {
      start = sym k.ends.first;
      end = sym k.ends.last;
      good = k.good;
      many = k.many;
      params = k.params;
      near = λ i b. within ms a.curve a.params tol k.fine (rw k.far at l) i (subst (λ (n : ℕ). i < n) (sym k.many) b);
      far = far_all;
      far-less = far_but_last;
      among = let b = before_last in omega arith;
    }

  judged-sound : (a : Trial) (b : Bool) → (b ≡ true → Kept ms (count ms) a) → Sound ms tol (judged tol (unless 6 b (ok a)))
  judged-sound a false k = refl
  judged-sound a true k = go (le a.far.err tol) refl
    where
      go : (b : Bool) → le a.far.err tol ≡ b → Sound ms tol (pick b (fits a.curve a.far a.params) (cuts a.far.at))
      go true e = kept-fits a (k refl) e
      go false e = (behind_first a (k refl) e, before_last a (k refl))

  pub part_sound : (st et : Point) → Sound ms tol (part_of ms st et tol)
  unfolding part_of outcome
  part_sound st et = go (leb (count ms) 2) refl
    where
      kept : (tried (count ms) ms st et tol).fine ≡ true → Kept ms (count ms) (tried (count ms) ms st et tol).val
      kept h = round-kept ms st et two (marked ms u.near 0 (omega arith)).0 (marked ms u.near (count ms - 1) (omega arith)).0 (end_in_round ms st et tol h)

      go : (b : Bool) → leb (count ms) 2 ≡ b → Sound ms tol (pick b (lined (unless 6 (line_of (mark_at ms 0) (mark_at ms 1)).fine (ok (line_of (mark_at ms 0) (mark_at ms 1)).val))) (judged tol (unless 6 (tried (count ms) ms st et tol).fine (ok (tried (count ms) ms st et tol).val))))
      go true e = lined-sound (line_of (mark_at ms 0) (mark_at ms 1)).fine (let l = leb-true (count ms) 2 e in omega arith)
      go false e = judged-sound (tried (count ms) ms st et tol).val (tried (count ms) ms st et tol).fine kept

pub cuts-inside : CutsInside
cuts-inside ms st et tol k two u e = subst (Sound ms tol) e (part_sound ms tol two u st et)
