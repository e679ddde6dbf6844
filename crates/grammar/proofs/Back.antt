-- The bytes of a well formed file are laid out as one, and what they hold is the file. Assumes nothing.
use mathlib.Core.Path.{◌≡◌, refl, sym, ap, ◌∙◌}
use mathlib.Core.Bool.{true}
use mathlib.Core.List.{List, [], ◌++◌, append-nil}
use Prim.Native.Nat.{ℕ, zero, suc, ◌+◌, ◌*◌, ◌<◌, ◌^◌}
use native.Mathlib.Omega.{arith}
use lib.ListN.{length, drop, length-append}
use lib.Seq.{drop-drop, drop_at}
use Rattle.form.specs.declared.Form.TheVariants.{Eight}
use Rattle.form.specs.Form.{width}
use Rattle.house.specs.Limits.{field_for, worst_marks, curve_bytes}
use Rattle.house.specs.Bytes.{le, num, row, words, les, all_fit}
use Rattle.house.specs.File.{File, rec, framed, flat, curve_records, fit_records, bytes_of, field_in, params_for}
use Rattle.house.specs.Held.{in_each, firsts_of, worsts_of, curves_of, file_at}
use Rattle.house.proofs.Forms.{worsts-each}
use Rattle.house.proofs.Numbers.{length-le, val-front, drop-front}
use Rattle.house.proofs.Rows.{length-les, row_back}
use Rattle.grammar.proofs.Records.{Head, length-framed, framed_head, framed-body}
use Rattle.grammar.proofs.Curves.{Opened, opened, empty}
use Rattle.grammar.proofs.Formed.{Turn, Sized, Fit, Formed, field_is, params_some}
use Rattle.grammar.proofs.Laid.{Started, Laid, plain, full}
use Rattle.grammar.proofs.Whole.{bytes_are, rest_none, rest_some, length_records}

-- kinds 1 and 2, read off
pub record Fronted (b : List ℕ) (n t : ℕ) (M r : List ℕ) : Type 0 where
  pub starts : Started b n
  pub tolerance : num 8 b 6 ≡ t
  pub marks : words (2 * n) (drop 20 b) ≡ M
  pub behind : drop (20 + 16 * n) b ≡ r
  pub size : length b ≡ 20 + 16 * n + length r

pub fronted : (n t : ℕ) (M r : List ℕ) → 2 + 16 * n < 256 ^ 4 → t < 256 ^ 8 → all_fit 8 M ≡ true → length M ≡ 2 * n
    → Fronted (framed (rec 1 (le 8 t)) ++ (framed (rec 2 (les M)) ++ r)) n t M r
fronted n t M r hn ht g l =
    let A : List ℕ = framed (rec 2 (les M)) ++ r in
    let b : List ℕ = framed (rec 1 (le 8 t)) ++ A in
    let z1 : 2 + length (le 8 t) ≡ 10 = simp length-le in
    let h1 : 10 < 256 ^ 4 = omega arith in
    let z2 : length (les M) ≡ 16 * n = length-les M ∙ rw l (omega arith) in
    let s2 : 2 + length (les M) ≡ 2 + 16 * n = ap (λ (x : ℕ). 2 + x) z2 in
    let k1 : 1 < 256 ^ 2 = omega arith in
    let k2 : 2 < 256 ^ 2 = omega arith in
    let d6 : drop 6 b ≡ le 8 t ++ A = framed-body 1 10 (le 8 t) A z1 h1 k1 in
    let j14 : drop 8 (drop 6 b) ≡ drop 14 b = drop-drop 8 6 b in
    let d14 : drop 14 b ≡ A = sym j14 ∙ rw d6 (drop-front 8 t A) in
    let j18 : drop 4 (drop 14 b) ≡ drop 18 b = drop-drop 4 14 b in
    let d18 : drop 18 b ≡ drop 4 A = sym j18 ∙ rw d14 in
    let j20 : drop 6 (drop 14 b) ≡ drop 20 b = drop-drop 6 14 b in
    let d20 : drop 20 b ≡ les M ++ r = sym j20 ∙ rw d14 (framed-body 2 (2 + 16 * n) (les M) r s2 hn k2) in
    let f2 = framed_head 2 (2 + 16 * n) (les M) r s2 hn k2 in
    let w : words (2 * n) (les M ++ r) ≡ M = rw l at (row_back 8 M r g) in
    let je : drop (16 * n) (drop 20 b) ≡ drop (20 + 16 * n) b = drop-drop (16 * n) 20 b in
    let de : drop (20 + 16 * n) b ≡ r = sym je ∙ rw d20 (drop_at (les M) r (16 * n) z2) in
    let sz : length b ≡ 20 + 16 * n + length r = simp (length-append, length-le, z2) (omega arith) in
    record {
      starts = record { long = omega arith; head1 = framed_head 1 10 (le 8 t) A z1 h1 k1; head2 = record { size_is = rw d14 f2.size_is; kind_is = rw d18 f2.kind_is } };
      tolerance = rw d6 (val-front 8 t A ht);
      marks = rw d20 w;
      behind = de;
      size = sz;
    }

-- kind 4 at the end, read off
pub params-back : (b : List ℕ) (at n : ℕ) (Q : List ℕ) → length Q ≡ n → all_fit 8 Q ≡ true → 2 + 8 * n < 256 ^ 4 → drop at b ≡ framed (rec 4 (les Q)) → Head b at (2 + 8 * n) 4 × (words n (drop (at + 6) b) ≡ Q)
params-back b at n Q l g few e =
    let zp : length (les Q) ≡ 8 * n = length-les Q ∙ rw l in
    let z4 : 2 + length (les Q) ≡ 2 + 8 * n = ap (λ (x : ℕ). 2 + x) zp in
    let last : List ℕ = framed (rec 4 (les Q)) in
    let en : last ++ [] ≡ last = append-nil last in
    let k4 : 4 < 256 ^ 2 = omega arith in
    let f4 : Head last 0 (2 + 8 * n) 4 = rw en at (framed_head 4 (2 + 8 * n) (les Q) [] z4 few k4) in
    let b4 : drop 6 last ≡ les Q ++ [] = rw en at (framed-body 4 (2 + 8 * n) (les Q) [] z4 few k4) in
    let j4 : drop 4 (drop at b) ≡ drop (at + 4) b = drop-drop 4 at b in
    let j6 : drop 6 (drop at b) ≡ drop (at + 6) b = drop-drop 6 at b in
    let dp : drop (at + 6) b ≡ les Q ++ [] = sym j6 ∙ rw e b4 in
    let w : words n (les Q ++ []) ≡ Q = rw l at (row_back 8 Q [] g) in
    (record { size_is = rw e f4.size_is; kind_is = rw (← j4, e) f4.kind_is }, rw dp w)

-- where bytes are laid out for n marks and k curves, and hold the file there
pub record Read-back (b : List ℕ) (F : File) (n k : ℕ) : Type 0 where
  pub laid : Laid b F.form n k
  pub file : file_at b F.form n k ≡ F

same_file : (b : List ℕ) (n k : ℕ) (F : File) → num 8 b 6 ≡ F.tolerance → words (2 * n) (drop 20 b) ≡ F.marks → firsts_of F.form (field_for n) k (drop (20 + 16 * n) b) ≡ F.firsts
    → worsts_of F.form (field_for n) k (drop (20 + 16 * n) b) ≡ F.worsts → curves_of F.form (field_for n) k (drop (20 + 16 * n) b) ≡ F.curves
    → words (params_for n k) (drop (20 + 16 * n + curve_bytes F.form (field_for n) * k + 6) b) ≡ F.params → file_at b F.form n k ≡ F
same_file b n k F e1 e2 e3 e4 e5 e6 = simp (e1, e2, e3, e4, e5, e6)

-- what follows the marks
abbrev rest : File → List ℕ
rest F = flat (fit_records F.form (field_in F) F.firsts F.worsts F.curves F.params)

module _ (F : File) (b : List ℕ) (n : ℕ) (f : Fronted b n F.tolerance F.marks (rest F)) where
  back-plain : F.form ≡ Eight → Sized F n 0 → Read-back b F n 0
  unfolding in_each row
  back-plain ef s =
      let r : length (rest F) ≡ 0 = ap length (rest_none F.form (field_in F) F.firsts F.worsts F.curves F.params s.firsts) in
      let w : length F.worsts ≡ 0 = s.worsts ∙ rw ef in
      let c : length F.curves ≡ 0 = omega (arith, s.curves) in
      record {
        laid = plain f.starts (omega (arith, f.size)) ef refl;
        file = same_file b n 0 F f.tolerance f.marks (sym (empty F.firsts s.firsts)) (sym (empty F.worsts w)) (sym (empty F.curves c)) (sym (empty F.params s.params));
      }

  back_full : (k : ℕ) → 0 < k → k < n → 2 + 16 * n < 256 ^ 4 → Fit F (field_for n) → Sized F n k → Read-back b F n k
  back_full k some few hn g s =
      let S : ℕ = curve_bytes F.form (field_for n) in
      let last : List ℕ = framed (rec 4 (les F.params)) in
      let d : List ℕ = flat (curve_records F.form (field_for n) F.firsts F.worsts F.curves) in
      let hw : length F.worsts ≡ worst_marks F.form * length F.firsts = rw s.firsts (s.worsts ∙ worsts-each F.form k) in
      let hc : length F.curves ≡ width F.form * length F.firsts = rw s.firsts s.curves in
      let eq : params_for n k ≡ n = params_some n some in
      let ep : length F.params ≡ n = s.params ∙ eq in
      let er : rest F ≡ d ++ last = rw (field_is s) (rest_some F.form (field_for n) F.firsts F.worsts F.curves F.params (rw s.firsts some)) in
      let et : drop (20 + 16 * n) b ≡ d ++ last = f.behind ∙ er in
      let o : Opened F.form (field_for n) k (d ++ last) F.firsts F.worsts F.curves =
      rw s.firsts at (opened F.form (field_for n) F.firsts F.worsts F.curves last g.firsts g.worsts g.curves hw hc) in
      let ld : length d ≡ S * k = length_records (field_for n) s in
      let ll : length last ≡ 6 + 8 * n = length-framed 4 (les F.params) ∙ rw (length-les F.params, ep) in
      let lr : length (rest F) ≡ S * k + (6 + 8 * n) = rw (er, length-append, ld, ll) in
      let sz : length b ≡ 20 + 16 * n + S * k + 6 + 8 * n = omega (arith, f.size) in
      let j : drop (S * k) (drop (20 + 16 * n) b) ≡ drop (20 + 16 * n + S * k) b = drop-drop (S * k) (20 + 16 * n) b in
      let dl : drop (20 + 16 * n + S * k) b ≡ last = sym j ∙ rw et (drop_at d last (S * k) ld) in
      let q = params-back b (20 + 16 * n + S * k) n F.params ep g.params (omega arith) dl in
      record {
        laid = full f.starts (record { size = sz; some = some; few = few; heads = rw et o.heads; head4 = q.0 });
        file = same_file b n k F f.tolerance f.marks (rw et o.firsts) (rw et o.worsts) (rw et o.curves) (rw eq q.1);
      }

-- the law
pub back : {F : File} {n k : ℕ} → Formed F n k → Read-back (bytes_of F) F n k
back {F} {n} {k} G = rw (bytes_are F) (go k G.way G.sized)
  where
    b : List ℕ
    b = framed (rec 1 (le 8 F.tolerance)) ++ (framed (rec 2 (les F.marks)) ++ rest F)

    f : Fronted b n F.tolerance F.marks (rest F)
    f = fronted n F.tolerance F.marks (rest F) G.few G.fit.tolerance G.fit.marks G.sized.marks

    go : (k : ℕ) → Turn F.form n k → Sized F n k → Read-back b F n k
    go zero (Turn.plain e z) s = back-plain F b n f e s
    go zero (Turn.full some few) s = absurd (omega arith)
    go (suc k) (Turn.plain e z) s = absurd (omega arith)
    go (suc k) (Turn.full some few) s = back_full F b n f (suc k) some few G.few G.fit s
