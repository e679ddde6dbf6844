-- Every file whose list the checker passes can be packed, and so can every file that `save_fit` writes. Assumes nothing.
use mathlib.Core.Path.{◌≡◌, refl, sym, ap, ◌∙◌}
use mathlib.Core.Bool.{true, not, ◌&&◌}
use mathlib.Core.List.{List, [], ◌∷◌}
use Prim.Native.Nat.{ℕ, zero, suc, ◌+◌, ◌-◌, ◌*◌, ◌<◌, ◌≤◌, ◌^◌}
use native.Mathlib.Nat.{add-zero}
use native.Mathlib.Omega.{arith}
use borrow.Author.Tests.{lt-ltb}
use lib.Dec.{T}
use lib.ListN.{length, take, drop, get_or}
use lib.Seq.{drop-cons, get_or-drop}
use lib.Ieee.{Float, nan, inf, fin, binary64, of_bits, to_bits, is_nan}
use lib.Ieee.Bits.{to_bits-of_bits}
use Rattle.float.specs.Number.{finite}
use Rattle.float.proofs.Truth.{never, and_left, and_right}
use Rattle.plane.specs.declared.Point.{Point}
use Rattle.plane.specs.declared.Curve.{Curve}
use Rattle.plane.specs.Range.{point_finite}
use Rattle.marks.specs.Marks.{count, mark_at}
use Rattle.form.specs.declared.Form.{Form}
use Rattle.form.specs.Form.{width}
use Rattle.ring.specs.declared.Outline.TheVariants.{Open}
use Rattle.ring.specs.Ring.{whole}
use Rattle.limits.specs.Limits.{most_marks}
use Rattle.gate.proofs.Tests.{passed_for}
use Rattle.faults.specs.Tests.{curve_of, curve_at, curve_finite}
use Rattle.faults.proofs.Firsts.{later}
use Rattle.checker.specs.Check.{passed}
use Rattle.sound.specs.Sound.{Sound}
use Rattle.sound.proofs.Sound.{judged, passes-sound}
use Rattle.house.specs.Bytes.{all_fit}
use Rattle.house.specs.File.{File, bytes_of, curves_in, marks_in}
use Rattle.house.proofs.Forms.{within}
use Rattle.house.proofs.Numbers.{split, fit_at}
use Rattle.grammar.proofs.Formed.{Turn, plain, full, Sized, formed}
use Rattle.grammar.proofs.Grammar.{holds_file, file_holds}
use Rattle.grammar.proofs.Candidate.{same_in}
use Rattle.packed.specs.Each.{each}
use Rattle.packed.specs.Packed.{start_at, end_at, packed_body, short, meets}
use Rattle.packed.proofs.Each.{each_same}
use Rattle.packed.proofs.Sizes.{curves-few, rest_is, rest_long, body-length}
use Rattle.packer.specs.Packer.{packed_text}
use Rattle.desk.specs.Desk.{floats}
use Rattle.desk.proofs.Numbers.{length-floats}
use Rattle.verdict.specs.Verdict.{list_in}
use Rattle.stored.specs.Stored.{PassedPacks, SavedPacks}
use Rattle.stored.proofs.Passes.{saved_passing}

-- ---- numbers of a list, and their bits

-- two numbers at a place
two_at : (C : List ℕ) (p : ℕ) → p + 2 ≤ length C → take 2 (drop p C) ≡ get_or C p 0 ∷ (get_or C (p + 1) 0 ∷ [])
two_at C p h =
    let e : suc p ≡ p + 1 = omega arith in
    rw (drop-cons C p 0 (omega arith), drop-cons C (suc p) 0 (omega arith), e)

float_at : (C : List ℕ) (p : ℕ) → p < length C → get_or (floats C) p nan ≡ of_bits binary64 (get_or C p 0)
float_at [] p h = absurd (omega arith)
float_at (x ∷ C) zero h = refl
float_at (x ∷ C) (suc p) h = float_at C p (omega arith)

-- a number that is finite is told by its bits
finite-nan : (x : Float) → finite x ≡ true → T (not (is_nan x))
unfolding finite is_nan
finite-nan nan h = never h
finite-nan (inf s) h = never h
finite-nan (fin s m e) h = tt

bits_at : (C : List ℕ) (p : ℕ) → all_fit 8 C ≡ true → p < length C → finite (get_or (floats C) p nan) ≡ true → to_bits binary64 (get_or (floats C) p nan) ≡ get_or C p 0
bits_at C p g l h =
    let e : get_or (floats C) p nan ≡ of_bits binary64 (get_or C p 0) = float_at C p l in
    let f : finite (of_bits binary64 (get_or C p 0)) ≡ true = rw e at h in
    rw e (to_bits-of_bits binary64 (get_or C p 0) (fit_at 8 C p g l) (finite-nan _ f))

-- ---- curves that meet

end_finite : (c : Curve) → curve_finite c ≡ true → point_finite c.end ≡ true
unfolding curve_finite
end_finite c h =
    let e = point_finite c.end in
    let d = point_finite c.cp2 in
    let p = point_finite c.cp1 in
    and_right d e (and_right p (d && e) (and_right (point_finite c.start) (p && (d && e)) h))

start_finite : (c : Curve) → curve_finite c ≡ true → point_finite c.start ≡ true
unfolding curve_finite
start_finite c h = and_left (point_finite c.start) (point_finite c.cp1 && (point_finite c.cp2 && point_finite c.end)) h

both_finite : (p : Point) → point_finite p ≡ true → (finite p.x ≡ true) × (finite p.y ≡ true)
unfolding point_finite
both_finite p h = split (finite p.x) (finite p.y) h

module _ (C : List ℕ) (g : all_fit 8 C ≡ true) where
  -- a point of finite numbers, behind p others, by its bits
  point-bits : (p i : ℕ) → p + i + 2 ≤ length C → finite (get_or (drop p (floats C)) i nan) ≡ true → finite (get_or (drop p (floats C)) (i + 1) nan) ≡ true
      → take 2 (drop (p + i) C) ≡ to_bits binary64 (get_or (drop p (floats C)) i nan) ∷ (to_bits binary64 (get_or (drop p (floats C)) (i + 1) nan) ∷ [])
  point-bits p i h fx fy =
      let ex : get_or (drop p (floats C)) i nan ≡ get_or (floats C) (p + i) nan = get_or-drop p (floats C) i nan in
      let q : p + (i + 1) ≡ p + i + 1 = omega arith in
      let ey : get_or (drop p (floats C)) (i + 1) nan ≡ get_or (floats C) (p + i + 1) nan = get_or-drop p (floats C) (i + 1) nan ∙ rw q in
      let bx = bits_at C (p + i) g (omega arith) (rw ex at fx) in
      let by = bits_at C (p + i + 1) g (omega arith) (rw ey at fy) in
      two_at C (p + i) h ∙ rw (ex, ey, bx, by)

  module _ (form : Form) (j : ℕ) (h : width form * j + 8 ≤ length C) (f : curve_finite (curve_at form (floats C) j) ≡ true) where
    end_bits : take 2 (drop (width form * j + 6) C) ≡ to_bits binary64 (curve_at form (floats C) j).end.x ∷ (to_bits binary64 (curve_at form (floats C) j).end.y ∷ [])
    unfolding curve_at curve_of mark_at
    end_bits =
        let e = both_finite (curve_at form (floats C) j).end (end_finite (curve_at form (floats C) j) f) in
        point-bits (width form * j) 6 (omega arith) e.0 e.1

    start_bits : take 2 (drop (width form * j) C) ≡ to_bits binary64 (curve_at form (floats C) j).start.x ∷ (to_bits binary64 (curve_at form (floats C) j).start.y ∷ [])
    unfolding curve_at curve_of mark_at
    start_bits =
        let z : width form * j + 0 ≡ width form * j = add-zero (width form * j) in
        let e = both_finite (curve_at form (floats C) j).start (start_finite (curve_at form (floats C) j) f) in
        rw z at (point-bits (width form * j) 0 (omega arith) e.0 e.1)

-- of a sound list
sound-meets : (F : File) (n k : ℕ) (ms : List Float) (tol : Float) (ps : List Float) → Sized F n k → all_fit 8 F.curves ≡ true → Sound F.form ms tol k (floats F.curves) F.firsts F.worsts ps → meets F ≡ true
unfolding meets
sound-meets F n k ms tol ps s g d =
    let e : each (k - 1) (end_at F) ≡ each (k - 1) (λ (i : ℕ). start_at F (suc i)) = each_same (k - 1) (end_at F) (λ (i : ℕ). start_at F (suc i)) joint in
    rw (s.firsts, e) (same_in _)
  where
    C : List ℕ
    C = F.curves

    inside : (j : ℕ) → j < k → width F.form * j + 8 ≤ length C
    inside j h = omega (arith, s.curves, within (width F.form) k j h, rest_is F.form, rest_long F.form)

    joint : (j : ℕ) → j < k - 1 → end_at F j ≡ start_at F (suc j)
    joint j h =
        let a = d.ends j (omega arith) in
        let b = d.begins (suc j) (omega arith) in
        let l = (later (count ms) k F.firsts j (omega arith)).0 in
        let m = ap (mark_at ms) l in
        let x = a.0 ∙ ap (λ (p : Point). to_bits binary64 p.x) m ∙ sym b.0 in
        let y = a.1 ∙ ap (λ (p : Point). to_bits binary64 p.y) m ∙ sym b.1 in
        end_bits C g F.form j (inside j (omega arith)) (d.numbers j (omega arith)) ∙ rw (x, y) (sym (start_bits C g F.form (suc j) (inside (suc j) (omega arith)) (d.numbers (suc j) (omega arith))))

-- ---- the file

pub passed_packs : PassedPacks
unfolding packed_text list_in
passed_packs b F e h =
    let f = formed F (file_holds e).formed in
    let ms : List Float = floats F.marks in
    let tol : Float = of_bits binary64 F.tolerance in
    let ps : List Float = floats F.params in
    let d = passes-sound Open F.form ms tol (curves_in F) (floats F.curves) F.firsts F.worsts ps h in
    let g = passed_for most_marks Open F.form (curves_in F) ms tol (length (floats F.curves)) (length F.firsts) (length F.worsts) (length ps) (judged Open F.form ms tol (curves_in F) (floats F.curves) F.firsts F.worsts ps passed h).0 in
    let m : meets F ≡ true = sound-meets F (marks_in F) (curves_in F) (whole Open ms) tol ps f.sized f.fit.curves d in
    let s : short F ≡ true = few-short F f.sized f.way d.some (omega (arith, g.most, length-floats F.marks)) in
    rw (e, s, m)
  where
    few-short : (F : File) → Sized F (marks_in F) (curves_in F) → Turn F.form (marks_in F) (curves_in F) → 0 < curves_in F → marks_in F ≤ most_marks → short F ≡ true
    few-short F s (plain z k) some few = absurd (omega arith)
    few-short F s (full x less) some few =
        let l : 2 + length (packed_body F) < 256 ^ 4 = omega (arith, body-length s some, curves-few F.form (curves_in F)) in
        lt-ltb _ _ l

pub saved_packs : SavedPacks
saved_packs b F e = let p = saved_passing b F e in passed_packs (bytes_of F) F (holds_file (record { formed = p.formed; bytes = refl })) p.list
