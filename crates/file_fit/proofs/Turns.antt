-- Turns of the loop that reads numbers, and the numbers that it leaves in front. Assumes nothing.
use mathlib.Core.Path.{◌≡◌, sym, ap, ◌∙◌}
use mathlib.Core.List.{List, [], ◌∷◌, ◌++◌, map-append}
use Prim.Native.Nat.{ℕ, ◌+◌, ◌*◌, ◌<◌}
use native.Mathlib.Numerals.{add-one}
use lib.ListN.{length, take, drop, set, length-map}
use lib.Seq.{drop-drop, take_at}
use lib.Ieee.{Float, nan, binary64, of_bits}
use Rattle.float.specs.Answer.{Answer}
use Rattle.float.specs.Slices.{written}
use Rattle.tangents.specs.declared.Cutting.TheVariants.{Joined}
use Rattle.fit.specs.Fit.{Ending, ending, fit_of}
use Rattle.house.specs.Bytes.{num, words}
use Rattle.house.specs.Held.{file_at}
use Rattle.house.proofs.Rows.{length-words, words-suc}
use Rattle.house.proofs.Turns.{front-suc}
use Rattle.form.specs.declared.Form.TheVariants.{Eight}
use Rattle.desk.specs.Desk.{zeros, no_marks, floats}
use Rattle.file_fit.specs.FileFit.{file_fit, Left}

pub length-floats : (n : ℕ) (b : List ℕ) → length (floats (words n b)) ≡ n
length-floats n b = length-map (words n b) (of_bits binary64) ∙ length-words n b

-- one more number read
pub floats-turn : (b : List ℕ) (at : ℕ) (l : List Float) (i : ℕ) → i < length l
    → set (floats (words i (drop at b)) ++ drop i l) i (of_bits binary64 (num 8 b (at + 8 * i))) ≡ floats (words (i + 1) (drop at b)) ++ drop (i + 1) l
floats-turn b at l i h =
    let w : words (i + 1) (drop at b) ≡ words i (drop at b) ++ (num 8 b (at + 8 * i) ∷ []) = rw (add-one i, words-suc, drop-drop) in
    let e : floats (words (i + 1) (drop at b)) ≡ floats (words i (drop at b)) ++ (of_bits binary64 (num 8 b (at + 8 * i)) ∷ []) = rw w (map-append (of_bits binary64) (words i (drop at b)) (num 8 b (at + 8 * i) ∷ [])) in
    front-suc nan (floats (words i (drop at b))) l (of_bits binary64 (num 8 b (at + 8 * i))) i (length-floats i (drop at b)) h
    ∙ ap (λ (r : List Float). r ++ drop (i + 1) l) (sym e)

-- the front of what was read
pub floats-front : (n : ℕ) (b : List ℕ) (l : List Float) → take n (written (floats (words n b)) l) ≡ floats (words n b)
floats-front n b l = take_at (floats (words n b)) (drop (length (floats (words n b))) l) n (length-floats n b)

-- what the fit left, in the definition's words
pub fit_left_is : (b : List ℕ) (n : ℕ) (C : List Float) (P : List ℕ) (l M : List Float) (W : List ℕ) (Q : List Float) (w : ℕ) (t : Float) (X : Answer ℕ) (C' : List Float) (P' W' : List ℕ) (Q' : List Float)
    → M ≡ written (floats (words (2 * n) (drop 20 b))) l
    → w ≡ num 8 b 6
    → t ≡ of_bits binary64 w
    → W ≡ no_marks 511
    → Q ≡ zeros 512
    → ending X C' P' W' Q' ≡ fit_of Joined (take (2 * n) M) t C P W Q
    → Left (file_fit (file_at b Eight n 0) C P (no_marks 511) (zeros 512)) X C' P'
unfolding file_fit
fit_left_is b n C P l M W Q w t X C' P' W' Q' eM ew et e_w eQ h =
    let m : take (2 * n) M ≡ floats (words (2 * n) (drop 20 b)) = rw eM (floats-front (2 * n) (drop 20 b) l) in
    let q : ending X C' P' W' Q' ≡ fit_of Joined (floats (words (2 * n) (drop 20 b))) (of_bits binary64 (num 8 b 6)) C P (no_marks 511) (zeros 512) = h ∙ rw (m, et, ew, e_w, eQ) in
    record { answer = ap (λ (E : Ending). E.answer) q; curves = ap (λ (E : Ending). E.curves) q; firsts = ap (λ (E : Ending). E.firsts) q }
