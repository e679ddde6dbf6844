-- The candidate: bytes hold no other file, and the heads at fixed places tell whether they hold it. Assumes nothing.
use mathlib.Core.Path.{◌≡◌, refl, ◌∙◌}
use mathlib.Core.Bool.{true}
use mathlib.Core.List.{List, [], ◌∷◌}
use Prim.Native.Nat.{ℕ}
use borrow.Author.Tests.{eqb-true, eq-eqb}
use lib.Dec.{eqb}
use Rattle.float.proofs.Truth.{never, both}
use Rattle.form.specs.declared.Form.{Form}
use Rattle.house.specs.Bytes.{same, all_fit}
use Rattle.house.specs.File.{File, Holds, bytes_of, marks_in, curves_in}
use Rattle.house.specs.Held.{marks_held, form_held, curves_held, candidate, is_file}
use Rattle.house.proofs.Numbers.{split}
use Rattle.grammar.proofs.Formed.{formed}
use Rattle.grammar.proofs.Laid.{Laid, laid-marks, laid-form, laid-curves, laid-candidate}
use Rattle.grammar.proofs.Held.{held}
use Rattle.grammar.proofs.Back.{Read-back, back}

pub same_out : (xs ys : List ℕ) → same xs ys ≡ true → xs ≡ ys
unfolding same
same_out [] [] h = refl
same_out [] (y ∷ ys) h = never h
same_out (x ∷ xs) [] h = never h
same_out (x ∷ xs) (y ∷ ys) h =
    let s = split (eqb x y) (same xs ys) h in
    let e : x ≡ y = eqb-true x y s.0 in
    let t : xs ≡ ys = same_out xs ys s.1 in
    rw (e, t)

pub same_in : (xs : List ℕ) → same xs xs ≡ true
unfolding same
same_in [] = refl
same_in (x ∷ xs) = both _ _ (eq-eqb x x refl) (same_in xs)

module _ {b : List ℕ} where
  -- the test for a file is the grammar's
  pub holds_candidate : is_file b ≡ true → Holds b (candidate b)
  unfolding is_file
  holds_candidate h =
      let s = split _ _ h in
      record { formed = s.0; bytes = same_out (bytes_of (candidate b)) b s.1 }

  pub candidate_holds : Holds b (candidate b) → is_file b ≡ true
  unfolding is_file
  candidate_holds h = both _ _ h.formed (rw h.bytes (same_in b))

  -- no other file is possible
  read_back : {F : File} → Holds b F → Read-back b F (marks_in F) (curves_in F)
  read_back {F} h = rw h.bytes at (back (formed F h.formed))

  pub candidate_is : {F : File} → Holds b F → candidate b ≡ F
  candidate_is h = let r = read_back h in laid-candidate r.laid ∙ r.file

  -- the heads at fixed places
  pub file-laid : is_file b ≡ true → let n = marks_held b in let form = form_held b n in Laid b form n (curves_held b form n)
  file-laid h =
      let l = (read_back (holds_candidate h)).laid in
      rw (laid-marks l, laid-form l, laid-curves l) l

  pub laid-file : {form : Form} {n k : ℕ} → all_fit 1 b ≡ true → Laid b form n k → is_file b ≡ true
  laid-file {form} {n} {k} g l = candidate_holds (rw (laid-candidate l) (held b g form n k l))
