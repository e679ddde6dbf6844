-- What each way through the calls answers. Assumes nothing.
use Prim.Native.Nat.{ℕ, ◌*◌, ◌^◌, ◌<◌, ◌≤◌}
use mathlib.Core.Path.{◌≡◌, refl, ◌∙◌}
use mathlib.Core.Bool.{Bool, true, false, cond}
use mathlib.Core.List.{List, []}
use native.Mathlib.Omega.{arith}
use borrow.Author.Tests.{le-leb, lt-leb}
use lib.Dec.{leb}
use lib.ListN.{length, drop}
use Rattle.float.specs.Answer.{Answer, ok, refused}
use Rattle.float.specs.Slices.{written}
use Rattle.form.specs.declared.Form.{Form}
use Rattle.form.specs.declared.Form.TheVariants.{Eight}
use Rattle.lines.specs.Lines.{refusal_line}
use Rattle.lines.specs.Handed.{handed, hand_over}
use Rattle.house.specs.Bytes.{num, words}
use Rattle.house.specs.File.{File, marks_in}
use Rattle.house.specs.Held.{file_at}
use Rattle.house.proofs.Rows.{length-words}
use Rattle.grammar.proofs.Formed.{formed}
use Rattle.packed_heads.specs.declared.Joints.{Joints}
use Rattle.packed_heads.specs.declared.Joints.TheVariants.{Twice, Once}
use Rattle.std.proofs.Common.{None}
use Rattle.packed_heads.specs.Layout.{held_layout_of, held_at}
use Rattle.packed_heads.proofs.Told.{HeldTold, held_untold}
use Rattle.salvaging.specs.declared.Sizes.{Sizes}
use Rattle.salvaging.specs.Salvage.{cleaned, Texts, texts_of, salvage_texts, sizes, Salvage, salvage, hand_both, salvage_of, bench_texts, printed_of}
use Rattle.salvaging.specs.Layout.{alone}

-- ---- two texts

module _ (O R : List ℕ) (t : Texts) where
  pub out-short : length O < length t.file → salvage (refused 4) O R ≡ hand_both O R t
  unfolding hand_both
  out-short h = rw (lt-leb (length t.file) (length O) h)

  pub report-short : length t.file ≤ length O → length R < length t.report → salvage (refused 4) O R ≡ hand_both O R t
  unfolding hand_both
  report-short h l = rw (le-leb (length t.file) (length O) h, lt-leb (length t.report) (length R) l)

  pub both_whole : {O' R' : List ℕ} {f r : ℕ} → f ≤ length O → r ≤ length R → length t.file ≡ f → length t.report ≡ r → O' ≡ written t.file O → R' ≡ written t.report R → salvage (ok (sizes f r)) O' R' ≡ hand_both O R t
  unfolding hand_both
  both_whole hf hr ef er eo eR = rw (le-leb (length t.file) (length O) (omega arith), le-leb (length t.report) (length R) (omega arith), eo, eR, ← ef, ← er)

-- ---- a file in either form: its tolerance and its marks stand at the same places

texts_by : (b : List ℕ) (n : ℕ) (G : File) → G.tolerance ≡ num 8 b 6 → G.marks ≡ words (2 * n) (drop 20 b) → texts_of G ≡ texts_of (file_at b Eight n 0)
unfolding texts_of cleaned
texts_by b n G et em = rw (et, em)

texts_at : (joints : Joints) (b : List ℕ) (form : Form) (n k : ℕ) → texts_of (held_at joints b form n k) ≡ texts_of (file_at b Eight n 0)
texts_at Twice b form n k = texts_by b n _ refl refl
texts_at Once b form n k = texts_by b n _ refl refl

marks_at_is : (joints : Joints) (b : List ℕ) (form : Form) (n k : ℕ) → marks_in (held_at joints b form n k) ≡ n
marks_at_is Twice b form n k = omega (arith, length-words (2 * n) (drop 20 b))
marks_at_is Once b form n k = omega (arith, length-words (2 * n) (drop 20 b))

-- so a file has fewer marks than its length can say
pub held-few : {b : List ℕ} {joints : Joints} {form : Form} {n k : ℕ} → HeldTold b joints form n k → n < 2 ^ 28
held-few {b} {joints} {form} {n} {k} t = let m = marks_at_is joints b form n k in omega (arith, (formed (held_at joints b form n k) t.formed).few)

-- ---- the call

pub salvage_broken : (b O R : List ℕ) → held_layout_of b ≡ None → salvage (refused 9) O R ≡ salvage_of b O R
unfolding salvage_of salvage_texts
salvage_broken b O R e = rw (held_untold b e)

module _ {b : List ℕ} {joints : Joints} {form : Form} {n k : ℕ} (O R : List ℕ) (t : HeldTold b joints form n k) where
  pub salvage-done : {S : Salvage} → S ≡ hand_both O R (texts_of (file_at b Eight n 0)) → S ≡ salvage_of b O R
  unfolding salvage_of salvage_texts
  salvage-done e = e ∙ rw (t.file, texts_at joints b form n k)

-- ---- the program's call

-- a line and no file
pub alone-over : (O R : List ℕ) (q : ℕ) {a : Answer Sizes} {R' : List ℕ} → (a ≡ alone (hand_over (refusal_line q) R).answer) × (R' ≡ (hand_over (refusal_line q) R).out) → salvage a O R' ≡ hand_both O R (record { file = []; report = refusal_line q })
unfolding hand_both hand_over
alone-over O R q e = rw (le-leb 0 (length O) (omega arith), e.0, e.1) (go (leb (length (refusal_line q)) (length R)))
  where
    go : (c : Bool)
        → salvage (alone (cond c (handed (ok (length (refusal_line q))) (written (refusal_line q) R)) (handed (refused 4) R)).answer) O (cond c (handed (ok (length (refusal_line q))) (written (refusal_line q) R)) (handed (refused 4) R)).out
        ≡ cond c (salvage (ok (sizes 0 (length (refusal_line q)))) O (written (refusal_line q) R)) (salvage (refused 4) O R)
    go true = refl
    go false = refl

module _ (b O R : List ℕ) {S : Salvage} where
  pub printed_long : 434120 < length b → S ≡ hand_both O R (record { file = []; report = refusal_line 9 }) → S ≡ printed_of b O R
  unfolding printed_of bench_texts
  printed_long h e = e ∙ rw (lt-leb (length b) 434120 h)

  pub printed_broken : length b ≤ 434120 → held_layout_of b ≡ None → S ≡ hand_both O R (record { file = []; report = refusal_line 9 }) → S ≡ printed_of b O R
  unfolding printed_of bench_texts
  printed_broken h u e = e ∙ rw (le-leb (length b) 434120 h, held_untold b u)

  module _ {joints : Joints} {form : Form} {n k : ℕ} (h : length b ≤ 434120) (t : HeldTold b joints form n k) where
    pub printed_many : 512 < n → S ≡ hand_both O R (record { file = []; report = refusal_line 2 }) → S ≡ printed_of b O R
    unfolding printed_of bench_texts
    printed_many m e = e ∙ rw (le-leb (length b) 434120 h, t.file, marks_at_is joints b form n k, lt-leb n 512 m)

    pub printed_done : n ≤ 512 → S ≡ hand_both O R (texts_of (file_at b Eight n 0)) → S ≡ printed_of b O R
    unfolding printed_of bench_texts
    printed_done m e = e ∙ rw (le-leb (length b) 434120 h, t.file, marks_at_is joints b form n k, le-leb n 512 m, texts_at joints b form n k)
