-- The writer takes what a joined fit leaves. Assumes nothing.
use mathlib.Core.Path.{◌≡◌, refl, ap, ap₂, ◌∙◌}
use mathlib.Core.Bool.{Bool, true, false, cond}
use mathlib.Core.List.{List, [], ◌∷◌, append-nil}
use Prim.Native.Nat.{ℕ, zero, suc, ◌/◌, ◌%◌, ◌^◌, ◌<◌, ◌≤◌}
use native.Mathlib.Omega.{arith}
use borrow.Author.Tests.{le-leb, eq-eqb}
use lib.Dec.{leb}
use lib.ListN.{length, take, get_or, drop_of_length-le}
use lib.Ieee.{Float}
use Rattle.float.specs.Answer.{Answer, ok, refused, unless}
use Rattle.float.specs.Slices.{written}
use Rattle.ring.specs.declared.Outline.TheVariants.{Open}
use Rattle.tangents.specs.declared.Cutting.TheVariants.{Joined}
use Rattle.tangents.specs.Ways.{over}
use Rattle.marks.specs.Marks.{count}
use Rattle.gate.proofs.Tests.{passed_for}
use Rattle.fit.specs.Fit.{ending, fit_of}
use Rattle.form.specs.declared.Form.TheVariants.{Nine}
use Rattle.faults.proofs.Firsts.{Risen, span}
use Rattle.sound.proofs.Under.{risen_of}
use Rattle.accepted.proofs.Theorem.{Passing, blocks_passing}
use Rattle.limits.specs.Limits.{most_marks}
use Rattle.house.specs.Limits.{field_for, mark_field}
use Rattle.house.specs.Bytes.{all_fit}
use Rattle.house.specs.File.{File, bytes_of}
use Rattle.house.proofs.Forms.{number_fits}
use Rattle.house.proofs.Numbers.{fit_cons}
use Rattle.grammar.proofs.Formed.{params_some, full, turning}
use Rattle.grammar.proofs.Rooms.{Places, placing}
use Rattle.writer.specs.Writer.{file_for, checked, Writing, writing, put, write_of}
use Rattle.lines.specs.Handed.{handed, hand_over}
use Rattle.desk.specs.Desk.{floats, patterns}
use Rattle.desk.proofs.Numbers.{length-floats, length-patterns}
use Rattle.saving.specs.Ready.{Ready}

-- ---- the writer, on a list that is ready

module _ (t : ℕ) {M : List ℕ} {k : ℕ} {P W : List ℕ} {C Q : List Float} (r : Ready M k P W C Q) where
  abbrev saved : File
  saved = file_for Nine t M k P W (patterns C) (patterns Q)

  places : Places Nine (length M / 2) k (length P) (length W) (length (patterns C)) (length (patterns Q))
  places =
      let c = length-patterns C in
      let q = length-patterns Q in
      let f = r.few in
      let k' = r.fewer in
      record { firsts = omega (arith, r.firsts); worsts = omega (arith, r.worsts); curves = omega (arith, r.curves); params = rw (params_some (length M / 2) r.some) (omega (arith, r.params)) }

  checked_at : (o : ℕ) → checked Nine t M k P W (patterns C) (patterns Q) o ≡ unless 4 (leb (length (bytes_of saved)) o) (ok saved)
  unfolding checked
  checked_at o =
      let f = r.few in
      rw (eq-eqb (length M % 2) 0 r.even, le-leb (length M / 2) most_marks (omega arith), placing places, turning {form = Nine} (full r.some r.fewer), r.fit, r.worst-fit)

put_by : (b : Bool) (F : File) (O : List ℕ) {a : Answer ℕ} {O' : List ℕ} → writing a O' ≡ put (unless 4 b (ok F)) O → handed a O' ≡ cond b (handed (ok (length (bytes_of F))) (written (bytes_of F) O)) (handed (refused 4) O)
put_by true F O h = ap₂ handed (ap (λ (w : Writing). w.answer) h) (ap (λ (w : Writing). w.out) h)
put_by false F O h = ap₂ handed (ap (λ (w : Writing). w.answer) h) (ap (λ (w : Writing). w.out) h)

put-over : (F : File) (O : List ℕ) {a : Answer ℕ} {O' : List ℕ} → writing a O' ≡ put (unless 4 (leb (length (bytes_of F)) (length O)) (ok F)) O → handed a O' ≡ hand_over (bytes_of F) O
unfolding hand_over
put-over F O h = put_by (leb (length (bytes_of F)) (length O)) F O h

-- a slice that is written over all its places
written_all : {A : Type 0} (xs l : List A) → length l ≤ length xs → written xs l ≡ xs
written_all xs l h = rw (drop_of_length-le l {i = length xs} h) (append-nil xs)

module _ (t : ℕ) {M : List ℕ} {k : ℕ} {P W : List ℕ} {C Q : List Float} (r : Ready M k P W C Q) (O : List ℕ) where
  write_over : {a : Answer ℕ} {O' : List ℕ} → writing a O' ≡ write_of Nine t M k P W (patterns C) (patterns Q) O → handed a O' ≡ hand_over (bytes_of (file_for Nine t M k P W (patterns C) (patterns Q))) O
  unfolding write_of
  write_over h = put-over (saved t r) O (rw (checked_at t r (length O)) at h)

  -- from the patterns in slices of the call's own
  pub written_over : {a : Answer ℕ} {O' : List ℕ} (cs ps : List ℕ) {cs' ps' : List ℕ} → 36855 ≡ length cs → 4096 ≡ length ps → cs' ≡ written (patterns C) cs → ps' ≡ written (patterns Q) ps
      → writing a O' ≡ write_of Nine t M k P W cs' ps' O → handed a O' ≡ hand_over (bytes_of (file_for Nine t M k P W (patterns C) (patterns Q))) O
  written_over {a} {O'} cs ps {cs'} {ps'} lc lp ec ep h =
      let c : cs' ≡ patterns C = ec ∙ written_all (patterns C) cs (omega (arith, length-patterns C, r.curves)) in
      let p : ps' ≡ patterns Q = ep ∙ written_all (patterns Q) ps (omega (arith, length-patterns Q, r.params)) in
      write_over (rw (c, p) at h)

-- ---- a joined fit leaves a list that is ready

fits : (f k : ℕ) (xs : List ℕ) → k ≤ length xs → ((j : ℕ) → j < k → get_or xs j 0 < 256 ^ f) → all_fit f (take k xs) ≡ true
unfolding all_fit
fits f zero xs h each = refl
fits f (suc k) [] h each = absurd (omega arith)
fits f (suc k) (x ∷ xs) h each = fit_cons f x (take k xs) (each 0 (omega arith)) (fits f k xs (omega arith) (λ j l. each (suc j) (omega arith)))

-- the curves of a joined fit are fewer than the marks, and their first marks and worst marks fit their field
pub record Listing (M : List ℕ) (k : ℕ) (P W : List ℕ) : Type 0 where
  pub some : 0 < k
  pub fewer : k < length M / 2
  pub fit : all_fit (mark_field (field_for (length M / 2))) (take k P) ≡ true
  pub worst-fit : all_fit (mark_field (field_for (length M / 2))) (take k W) ≡ true

pub fit-listing : (M : List ℕ) (tol : Float) (k : ℕ) (C C' : List Float) (P P' W W' : List ℕ) (Q Q' : List Float) → ending (ok k) C' P' W' Q' ≡ fit_of Joined (floats M) tol C P W Q → Listing M k P' W'
unfolding over
fit-listing M tol k C C' P P' W W' Q Q' h =
    let p : Passing Open (floats M) tol k C' P' W' Q' = blocks_passing (floats M) tol k C C' P P' W W' Q Q' Joined refl h in
    let g = passed_for most_marks Open Nine k (floats M) tol (length C') (length P') (length W') (length Q') p.taken in
    let n : count (floats M) ≡ length M / 2 = rw (length-floats M) in
    let s = p.sound in
    let r : Risen (count (floats M)) k P' = risen_of (count (floats M)) k P' s.some s.from_first s.two_or_more in
    let most = g.most in
    let f : ℕ = mark_field (field_for (length M / 2)) in
    record {
      some = r.some;
      fewer = omega (arith, r.few);
      fit = fits f k P' g.firsts (λ j l. number_fits (length M / 2) _ (omega (arith, r.below j l)) (omega arith));
      worst-fit = fits f k W' g.worsts (λ j l.
          let below = (s.worst_is refl j l).upto in
          let stops = (span (count (floats M)) k P' j r l).stops in
          number_fits (length M / 2) _ (omega arith) (omega arith));
    }

pub fit_ready : (M : List ℕ) (tol : Float) (k : ℕ) (C C' : List Float) (P P' W W' : List ℕ) (Q Q' : List Float) → length M % 2 ≡ 0 → length M ≤ 8192 → length P' ≡ 4095 → length W' ≡ 4095 → length C' ≡ 36855 → length Q' ≡ 4096
    → ending (ok k) C' P' W' Q' ≡ fit_of Joined (floats M) tol C P W Q → Ready M k P' W' C' Q'
fit_ready M tol k C C' P P' W W' Q Q' even few lp lw lc lq h =
    let l = fit-listing M tol k C C' P P' W W' Q Q' h in
    record { even = even; few = few; some = l.some; fewer = l.fewer; firsts = lp; worsts = lw; curves = lc; params = lq; fit = l.fit; worst-fit = l.worst-fit }
