-- Parts that wait, worked off from left to right, come to the run: one that is cut is its left side with its right side waiting. Assumes nothing.
use Prim.Native.Nat.{ℕ, zero, suc, ◌+◌, ◌-◌, ◌*◌, ◌≤◌, ◌<◌}
use native.Mathlib.Omega.{arith}
use mathlib.Core.Path.{◌≡◌, refl, sym, ap, subst, ◌∙◌}
use mathlib.Core.List.{List, [], ◌∷◌, ◌++◌, append_assoc}
use lib.ListN.{length, take, drop, length-take, length-drop}
use lib.Seq.{take-append-add, take-take, drop-drop, take-nil}
use lib.Ieee.{Float}
use Rattle.float.specs.Answer.{Answer, ok, outcome}
use Rattle.float.specs.Answer.{refused as no}
use Rattle.plane.specs.declared.Point.{Point}
use Rattle.plane.specs.declared.Curve.{Curve}
use Rattle.marks.specs.Marks.{count, mark_at}
use Rattle.marks.proofs.Parts.{mark-drop, mark-take}
use Rattle.stages.specs.declared.worst.Worst.{Worst}
use Rattle.part.specs.Part.{fits, cuts, fails, part_of}
use Rattle.gate.specs.Gate.{Usable}
use Rattle.ends.proofs.Usable.{usable-take, usable-drop}
use Rattle.ends.specs.Rounds.{Inside}
use Rattle.ends.proofs.Parts.{Fits, Sound, part_sound, cuts-inside}
use Rattle.tangents.specs.declared.Ways.{Ways}
use Rattle.tangents.specs.Ways.{tangent_at, ways_at}
use Rattle.cut.specs.Run.{Run, refused, done, beside, flat, left_of, right_of, join, turned, run_of}
use Rattle.cut.proofs.Run.{Sized, run_sized, run_fits, run-fails, run-cuts}
use Rattle.parts.specs.Headings.{one}
use Rattle.waiting.specs.Waiting.{part_at, headed, part_in, run_at, open_of}

-- ---- three runs, one behind the other: it makes no difference which two are put together first

-- as many parameters as the marks before the next run
abbrev Long : ℕ → Run → Type 0
Long k (refused q) = Unit {0}
Long k (done c b p) = k ≤ length p

join_assoc : (k l m : ℕ) (A B R : Run) → m ≡ k + l → Long k A → join m (join k A B) R ≡ join k A (join l B R)
join_assoc k l m (refused q) B R e h = refl
join_assoc k l m (done c b p) (refused q) R e h = refl
join_assoc k l m (done c b p) (done c' b' p') (refused q) e h = refl
join_assoc k l m (done c b p) (done c' b' p') (done c'' b'' p'') e h =
    let n : length (take k p) ≡ k = simp length-take (omega arith) in
    let i : m ≡ length (take k p) + l = omega arith in
    let t : take m (take k p ++ p') ≡ take k p ++ take l p' = ap (λ (j : ℕ). take j (take k p ++ p')) i ∙ take-append-add (take k p) p' l in
    rw (t, append_assoc c, append_assoc b, append_assoc (take k p))

-- ---- parts of a part

drop-take : {A : Type 0} (i j m : ℕ) (l : List A) → m ≡ i + j → drop i (take m l) ≡ take j (drop i l)
drop-take zero j m l e = let d : m ≡ j = omega arith in ap (λ (x : ℕ). take x l) d
drop-take (suc i) j zero l e = absurd (omega arith)
drop-take (suc i) j (suc m) [] e = sym (take-nil j)
drop-take (suc i) j (suc m) (x ∷ l) e = drop-take i j m l (omega arith)

module _ (ms : List Float) (a b k : ℕ) (n : ℕ) (even : length ms ≡ 2 * n) (bound : b < n) (inside : (0 < k) × (a + k < b)) where
  long : length (part_at ms a b) ≡ 2 * (b + 1) - 2 * a
  long = simp (length-take, length-drop) (omega (arith, inside))

  pub left_part : left_of k (part_at ms a b) ≡ part_at ms a (a + k)
  left_part =
      let e : 2 * k + 2 ≡ 2 * (a + k + 1) - 2 * a = omega arith in
      take-take (2 * k + 2) (2 * (b + 1) - 2 * a) (drop (2 * a) ms) (omega (arith, inside)) ∙ ap (λ (i : ℕ). take i (drop (2 * a) ms)) e

  pub right_part : right_of k (part_at ms a b) ≡ part_at ms (a + k) b
  right_part =
      let f : 2 * a + 2 * k ≡ 2 * (a + k) = omega arith in
      drop-take (2 * k) (2 * (b + 1) - 2 * (a + k)) (2 * (b + 1) - 2 * a) (drop (2 * a) ms) (omega (arith, inside))
      ∙ ap (take (2 * (b + 1) - 2 * (a + k))) (drop-drop (2 * k) (2 * a) ms ∙ ap (λ (i : ℕ). drop i ms) f)

  mark_part : (j : ℕ) → a + j ≤ b → mark_at (part_at ms a b) j ≡ mark_at ms (a + j)
  mark_part j h = mark-take (drop (2 * a) ms) (2 * (b + 1) - 2 * a) j (omega arith) ∙ mark-drop ms a j

  pub ways_part : ways_at (part_at ms a b) k ≡ ways_at ms (a + k)
  unfolding ways_at tangent_at
  ways_part =
      let before : a + (k - 1) ≡ a + k - 1 = omega (arith, inside) in
      let after : a + (k + 1) ≡ a + k + 1 = omega arith in
      rw (mark_part (k - 1) (omega (arith, inside)) ∙ ap (mark_at ms) before, mark_part k (omega (arith, inside)), mark_part (k + 1) (omega (arith, inside)) ∙ ap (mark_at ms) after)

-- between two marks every tangent is that of a cut
abbrev pub Free : (ℕ → Answer Point) → (ℕ → Answer Point) → List Float → ℕ → ℕ → Type 0
Free start end ms a b = (j : ℕ) → a < j → j < b → (start j ≡ one (λ w. w.start) (outcome (ways_at ms j))) × (end j ≡ one (λ w. w.end) (outcome (ways_at ms j)))

module _ (start end : ℕ → Answer Point) (ms : List Float) (tol : Float) (n : ℕ) (even : length ms ≡ 2 * n) (usable : Usable ms tol) where
  module _ (a b : ℕ) (some : a < b) (bound : b < n) where
    part_many : count (part_at ms a b) ≡ b + 1 - a
    part_many = simp (length-take, length-drop) (omega arith)

    part_usable : Usable (part_at ms a b) tol
    part_usable = usable-take (2 * (b + 1) - 2 * a) (usable-drop (2 * a) usable)

    -- ---- one that fits, one that fails

    pub at_fits : (c : Curve) (w : Worst) (ps : List Float) → part_in start end ms tol a b ≡ fits c w ps → run_at start end ms tol a b ≡ done (flat c w.err) (beside a (a + w.at) ∷ []) ps
    at_fits c w ps = go (start a) (end b)
      where
        go : (S E : Answer Point) → headed fails S E (λ s e. part_of (part_at ms a b) s e tol) ≡ fits c w ps → headed refused S E (λ s e. run_of (part_at ms a b) a s e tol) ≡ done (flat c w.err) (beside a (a + w.at) ∷ []) ps
        go (no q) E h = let z : ◌≡◌ {A = ℕ} 0 1 = cc in absurd (omega arith)
        go (ok s) (no q) h = let z : ◌≡◌ {A = ℕ} 0 1 = cc in absurd (omega arith)
        go (ok s) (ok e) h = let m = part_many in run_fits (part_at ms a b) a s e tol (omega arith) c w ps h

    -- its worst mark is a mark of the part, and each mark has a parameter
    pub at_among : (c : Curve) (w : Worst) (ps : List Float) → part_in start end ms tol a b ≡ fits c w ps → (a + w.at ≤ b) × (length ps ≡ b + 1 - a)
    at_among c w ps = go (start a) (end b)
      where
        go : (S E : Answer Point) → headed fails S E (λ s e. part_of (part_at ms a b) s e tol) ≡ fits c w ps → (a + w.at ≤ b) × (length ps ≡ b + 1 - a)
        go (no q) E h = let z : ◌≡◌ {A = ℕ} 0 1 = cc in absurd (omega arith)
        go (ok s) (no q) h = let z : ◌≡◌ {A = ℕ} 0 1 = cc in absurd (omega arith)
        go (ok s) (ok e) h =
            let m = part_many in
            let good : Fits (part_at ms a b) tol c w ps = subst (Sound (part_at ms a b) tol) h (part_sound (part_at ms a b) tol (omega arith) part_usable s e) in
            (omega (arith, good.among), good.many ∙ m)

    pub at_fails : (q : ℕ) → part_in start end ms tol a b ≡ fails q → run_at start end ms tol a b ≡ refused q
    at_fails q = go (start a) (end b)
      where
        go : (S E : Answer Point) → headed fails S E (λ s e. part_of (part_at ms a b) s e tol) ≡ fails q → headed refused S E (λ s e. run_of (part_at ms a b) a s e tol) ≡ refused q
        go (no p) E h = let z : p ≡ q = cc in ap refused z
        go (ok s) (no p) h = let z : p ≡ q = cc in ap refused z
        go (ok s) (ok e) h = let m = part_many in run-fails (part_at ms a b) a s e tol (omega arith) q h

    -- ---- one that is cut

    pub at_inside : (k : ℕ) → part_in start end ms tol a b ≡ cuts k → (0 < k) × (a + k < b)
    at_inside k = go (start a) (end b)
      where
        go : (S E : Answer Point) → headed fails S E (λ s e. part_of (part_at ms a b) s e tol) ≡ cuts k → (0 < k) × (a + k < b)
        go (no q) E h = let z : ◌≡◌ {A = ℕ} 0 1 = cc in absurd (omega arith)
        go (ok s) (no q) h = let z : ◌≡◌ {A = ℕ} 0 1 = cc in absurd (omega arith)
        go (ok s) (ok e) h =
            let m = part_many in
            let i : Inside (part_at ms a b) k = cuts-inside (part_at ms a b) s e tol k (omega arith) part_usable h in
            (i.0, omega (arith, i))

    module _ (free : Free start end ms a b) (k : ℕ) (is : part_in start end ms tol a b ≡ cuts k) where
      inside : (0 < k) × (a + k < b)
      inside = at_inside k is

      -- the run of the part is that of its sides, each with the tangents by the mark
      sides : (S E : Answer Point) → headed fails S E (λ s e. part_of (part_at ms a b) s e tol) ≡ cuts k → start a ≡ S → end b ≡ E
          → headed refused S E (λ s e. run_of (part_at ms a b) a s e tol) ≡ join k (run_at start end ms tol a (a + k)) (run_at start end ms tol (a + k) b)
      sides (no q) E h x y = let z : ◌≡◌ {A = ℕ} 0 1 = cc in absurd (omega arith)
      sides (ok s) (no q) h x y = let z : ◌≡◌ {A = ℕ} 0 1 = cc in absurd (omega arith)
      sides (ok s) (ok e) h x y =
          let m = part_many in
          let f = free (a + k) (omega (arith, inside)) inside.1 in
          run-cuts (part_at ms a b) a s e tol (omega arith) part_usable k h
          ∙ rw (ways_part ms a b k n even bound inside, left_part ms a b k n even bound inside, right_part ms a b k n even bound inside, x, y, f.0, f.1) (go (outcome (ways_at ms (a + k))))
        where
          go : (W : Answer Ways)
              → turned W (λ w. join k (run_of (part_at ms a (a + k)) a s w.end tol) (run_of (part_at ms (a + k) b) (a + k) w.start e tol))
              ≡ join k (headed refused (ok s) (one (λ w. w.end) W) (λ s e. run_of (part_at ms a (a + k)) a s e tol)) (headed refused (one (λ w. w.start) W) (ok e) (λ s e. run_of (part_at ms (a + k) b) (a + k) s e tol))
          go (ok w) = refl
          go (no q) = refl

      pub at_cut : run_at start end ms tol a b ≡ join k (run_at start end ms tol a (a + k)) (run_at start end ms tol (a + k) b)
      at_cut = sides (start a) (end b) is refl refl

  -- a run of the part has a parameter for each mark
  at_long : (a b k : ℕ) → a < b → b < n → b ≡ a + k → Long k (run_at start end ms tol a b)
  at_long a b k some bound e = go (start a) (end b)
    where
      sized : (R : Run) → Sized (part_at ms a b) a R → Long k R
      sized (refused q) z = tt
      sized (done c bs p) z = let m = part_many a b some bound in omega (arith, z.3)

      go : (S E : Answer Point) → Long k (headed refused S E (λ s e. run_of (part_at ms a b) a s e tol))
      go (no q) E = tt
      go (ok s) (no q) = tt
      go (ok s) (ok e) = let m = part_many a b some bound in sized (run_of (part_at ms a b) a s e tol) (run_sized (part_at ms a b) a s e tol (omega arith) (part_usable a b some bound))

  -- ---- the law of the engine: a part that is cut at k is its left side, with its own end waiting
  pub open_cut : (a b k : ℕ) (cs : List ℕ) → a < b → b < n → Free start end ms a b → part_in start end ms tol a b ≡ cuts k
      → open_of start end ms tol a b cs ≡ open_of start end ms tol a (a + k) (b ∷ cs)
  unfolding open_of
  open_cut a b k [] some bound free is = let e : k ≡ a + k - a = omega arith in at_cut a b some bound free k is ∙ ap (λ (i : ℕ). join i (run_at start end ms tol a (a + k)) (run_at start end ms tol (a + k) b)) e
  open_cut a b k (c ∷ cs) some bound free is =
      let i = at_inside a b some bound k is in
      let e : k ≡ a + k - a = omega arith in
      ap (λ (R : Run). join (b - a) R (open_of start end ms tol b c cs)) (at_cut a b some bound free k is)
      ∙ join_assoc k (b - (a + k)) (b - a) (run_at start end ms tol a (a + k)) (run_at start end ms tol (a + k) b) (open_of start end ms tol b c cs) (omega (arith, i)) (at_long a (a + k) k (omega (arith, i)) (omega (arith, i)) refl)
      ∙ ap (λ (i : ℕ). join i (run_at start end ms tol a (a + k)) (join (b - (a + k)) (run_at start end ms tol (a + k) b) (open_of start end ms tol b c cs))) e

  -- one that fails, and one that fits, before what waits
  pub open-fails : (a b q : ℕ) (cs : List ℕ) → a < b → b < n → part_in start end ms tol a b ≡ fails q → open_of start end ms tol a b cs ≡ refused q
  unfolding open_of
  open-fails a b q [] some bound is = at_fails a b some bound q is
  open-fails a b q (c ∷ cs) some bound is = ap (λ (R : Run). join (b - a) R (open_of start end ms tol b c cs)) (at_fails a b some bound q is)

  module _ (a b : ℕ) (some : a < b) (bound : b < n) (c : Curve) (w : Worst) (ps : List Float) (is : part_in start end ms tol a b ≡ fits c w ps) where
    pub open_last : open_of start end ms tol a b [] ≡ done (flat c w.err) (beside a (a + w.at) ∷ []) ps
    unfolding open_of
    open_last = at_fits a b some bound c w ps is

    pub open_next : (d : ℕ) (ds : List ℕ) → open_of start end ms tol a b (d ∷ ds) ≡ join (b - a) (done (flat c w.err) (beside a (a + w.at) ∷ []) ps) (open_of start end ms tol b d ds)
    unfolding open_of
    open_next d ds = ap (λ (R : Run). join (b - a) R (open_of start end ms tol b d ds)) (at_fits a b some bound c w ps is)
