-- Bytes that are laid out as a file are that file. Assumes nothing.
use mathlib.Core.Path.{◌≡◌, refl, sym, ap, ◌∙◌}
use mathlib.Core.Bool.{true}
use mathlib.Core.List.{List, [], ◌++◌, append-nil}
use Prim.Native.Nat.{ℕ, ◌+◌, ◌*◌, ◌<◌, ◌≤◌, ◌^◌}
use native.Mathlib.Omega.{arith}
use lib.ListN.{length, drop, length-drop, drop_of_length-le}
use lib.Seq.{drop-drop}
use Rattle.form.specs.declared.Form.{Form}
use Rattle.form.specs.Form.{width}
use Rattle.house.specs.Limits.{field_for, mark_field, worst_marks, curve_bytes, numbers_at}
use Rattle.house.specs.Bytes.{le, num, words, les, all_fit}
use Rattle.house.specs.File.{Holds, bytes_of, rec, framed, flat, curve_records, fit_records, params_for}
use Rattle.house.specs.Held.{firsts_of, worsts_of, curves_of, file_at}
use Rattle.house.proofs.Numbers.{fit-drop, length-le, le-front}
use Rattle.house.proofs.Rows.{length-words, length-les, fit-num, fit_row, row-front}
use Rattle.grammar.proofs.Records.{Head, framed-front}
use Rattle.grammar.proofs.Curves.{length-firsts, length-worsts, length-curves, fit-each, curves-front}
use Rattle.grammar.proofs.Formed.{Turn, Sized, Fit, forming, field_is, params_some}
use Rattle.grammar.proofs.Laid.{Started, Ended, Laid, plain, full}
use Rattle.grammar.proofs.Whole.{bytes_are, rest_none, rest_some}

pub sized_at : (b : List ℕ) (form : Form) (n k : ℕ) → Sized (file_at b form n k) n k
sized_at b form n k = record {
  marks = length-words (2 * n) (drop 20 b);
  firsts = length-firsts form (field_for n) k (drop (20 + 16 * n) b);
  worsts = length-worsts form (field_for n) k (drop (20 + 16 * n) b);
  curves = length-curves form (field_for n) k (drop (20 + 16 * n) b);
  params = length-words (params_for n k) (drop (20 + 16 * n + curve_bytes form (field_for n) * k + 6) b);
}

module _ (b : List ℕ) (g : all_fit 1 b ≡ true) where
  fit_at : (form : Form) (n k : ℕ) → Fit (file_at b form n k) (field_for n)
  fit_at form n k = record {
    tolerance = fit-num 8 6 b g;
    marks = fit_row 8 (2 * n) (drop 20 b) (fit-drop 1 20 b g);
    firsts = fit-each (mark_field (field_for n)) 1 6 (curve_bytes form (field_for n)) k (drop (20 + 16 * n) b) (fit-drop 1 (20 + 16 * n) b g);
    worsts = fit-each (mark_field (field_for n)) (worst_marks form) (6 + mark_field (field_for n)) (curve_bytes form (field_for n)) k (drop (20 + 16 * n) b) (fit-drop 1 (20 + 16 * n) b g);
    curves = fit-each 8 (width form) (numbers_at form (field_for n)) (curve_bytes form (field_for n)) k (drop (20 + 16 * n) b) (fit-drop 1 (20 + 16 * n) b g);
    params = fit_row 8 (params_for n k) (drop (20 + 16 * n + curve_bytes form (field_for n) * k + 6) b) (fit-drop 1 (20 + 16 * n + curve_bytes form (field_for n) * k + 6) b g);
  }

  pub few_at : {n : ℕ} → Started b n → 2 + 16 * n < 256 ^ 4
  few_at s = omega (arith, s.head2.size_is, fit-num 4 14 b g)

  -- a head at p is the head of what is left there
  pub head_at : (p : ℕ) {size kind : ℕ} → Head b p size kind → Head (drop p b) 0 size kind
  head_at p h = record { size_is = h.size_is; kind_is = rw (drop-drop 4 p b) h.kind_is }

  -- kinds 1 and 2, and what follows
  pub start_held : (n : ℕ) (r : List ℕ) → Started b n → 20 + 16 * n ≤ length b → r ≡ drop (20 + 16 * n) b
      → framed (rec 1 (le 8 (num 8 b 6))) ++ (framed (rec 2 (les (words (2 * n) (drop 20 b)))) ++ r) ≡ b
  start_held n r s h er =
      let m : List ℕ = words (2 * n) (drop 20 b) in
      let p : 8 * (2 * n) ≡ 16 * n = omega arith in
      let e20 : drop (8 * (2 * n)) (drop 20 b) ≡ drop (20 + 16 * n) b = rw (drop-drop, p) in
      let b2 : les m ++ r ≡ drop 20 b = rw (er, ← e20) (row-front 8 (2 * n) (drop 20 b) (fit-drop 1 20 b g) (simp length-drop (omega arith))) in
      let z2 : 2 + length (les m) ≡ 2 + 16 * n = ap (λ (x : ℕ). 2 + x) (length-les m ∙ rw length-words p) in
      let j20 : drop 6 (drop 14 b) ≡ drop 20 b = drop-drop 6 14 b in
      let r2 : framed (rec 2 (les m)) ++ r ≡ drop 14 b =
      framed-front (drop 14 b) 2 (2 + 16 * n) (les m) r (fit-drop 1 14 b g) (simp length-drop (omega arith)) z2 (head_at 14 s.head2) (b2 ∙ sym j20) in
      let j14 : drop 8 (drop 6 b) ≡ drop 14 b = drop-drop 8 6 b in
      let b1 : le 8 (num 8 b 6) ++ drop 14 b ≡ drop 6 b = rw (← j14) (le-front (drop 6 b) 8 (num 8 b 6) (fit-drop 1 6 b g) (simp length-drop (omega arith)) refl) in
      let z1 : 2 + length (le 8 (num 8 b 6)) ≡ 10 = simp length-le in
      rw r2 (framed-front b 1 10 (le 8 (num 8 b 6)) (drop 14 b) g (omega arith) z1 s.head1 b1)

  -- kind 4, at the end
  pub params-held : (last n : ℕ) → length b ≡ last + 6 + 8 * n → Head b last (2 + 8 * n) 4 → framed (rec 4 (les (words n (drop (last + 6) b)))) ≡ drop last b
  params-held last n size head =
      let t : List ℕ = drop (last + 6) b in
      let none : drop (8 * n) t ≡ [] = drop_of_length-le t {i = 8 * n} (simp length-drop (omega arith)) in
      let b4 : les (words n t) ++ [] ≡ t = rw (← none) (row-front 8 n t (fit-drop 1 (last + 6) b g) (simp length-drop (omega arith))) in
      let j6 : drop 6 (drop last b) ≡ t = drop-drop 6 last b in
      let z : 2 + length (les (words n t)) ≡ 2 + 8 * n = ap (λ (x : ℕ). 2 + x) (length-les (words n t) ∙ rw length-words) in
      let r4 : framed (rec 4 (les (words n t))) ++ [] ≡ drop last b =
      framed-front (drop last b) 4 (2 + 8 * n) (les (words n t)) [] (fit-drop 1 last b g) (simp length-drop (omega arith)) z (head_at last head) (b4 ∙ sym j6) in
      sym (append-nil (framed (rec 4 (les (words n t))))) ∙ r4

  module _ (form : Form) (n k : ℕ) where
    -- what follows the marks
    abbrev rest : List ℕ
    rest =
        flat
        (fit_records form (field_for n) (firsts_of form (field_for n) k (drop (20 + 16 * n) b)) (worsts_of form (field_for n) k (drop (20 + 16 * n) b)) (curves_of form (field_for n) k (drop (20 + 16 * n) b)) (words (params_for n k) (drop (20 + 16 * n + curve_bytes form (field_for n) * k + 6) b)))

    -- the curves and kind 4
    end_held : Ended b form n k → rest ≡ drop (20 + 16 * n) b
    end_held f =
        let S : ℕ = curve_bytes form (field_for n) in
        let at : ℕ = 20 + 16 * n in
        let last : ℕ = at + S * k in
        let d : List ℕ = drop at b in
        let t : List ℕ = drop (last + 6) b in
        let eq : params_for n k ≡ n = params_some n f.some in
        let jl : drop (S * k) d ≡ drop last b = drop-drop (S * k) at b in
        let r : framed (rec 4 (les (words n t))) ≡ drop (S * k) d = params-held last n f.size f.head4 ∙ sym jl in
        let i : flat (curve_records form (field_for n) (firsts_of form (field_for n) k d) (worsts_of form (field_for n) k d) (curves_of form (field_for n) k d)) ++ drop (S * k) d ≡ d =
        curves-front form (field_for n) k d (fit-drop 1 at b g) (simp length-drop (omega (arith, f.size))) f.heads in
        rw (eq, rest_some form (field_for n) (firsts_of form (field_for n) k d) (worsts_of form (field_for n) k d) (curves_of form (field_for n) k d) (words n t) (rw (length-firsts form (field_for n) k d) f.some), r) i

    -- the bytes of what stands there
    bytes_at : bytes_of (file_at b form n k) ≡ framed (rec 1 (le 8 (num 8 b 6))) ++ (framed (rec 2 (les (words (2 * n) (drop 20 b)))) ++ rest)
    bytes_at = bytes_are (file_at b form n k) ∙ rw (field_is (sized_at b form n k))

    -- the law
    pub held : Laid b form n k → Holds b (file_at b form n k)
    held (plain s z f e) =
        let r : rest ≡ drop (20 + 16 * n) b =
        rest_none form (field_for n) (firsts_of form (field_for n) k (drop (20 + 16 * n) b)) _ _ _ (length-firsts form (field_for n) k (drop (20 + 16 * n) b) ∙ e) ∙ sym (drop_of_length-le b {i = 20 + 16 * n} (omega arith)) in
        record {
          formed = forming (record { sized = sized_at b form n k; way = Turn.plain f e; few = few_at s; fit = fit_at form n k });
          bytes = bytes_at ∙ start_held n _ s (omega arith) r;
        }
    held (full s f) = record {
      formed = forming (record { sized = sized_at b form n k; way = Turn.full f.some f.few; few = few_at s; fit = fit_at form n k });
      bytes = bytes_at ∙ start_held n _ s (omega (arith, f.size)) (end_held f);
    }
