-- What a passed gate gives a run, and the three ways a fit ends. Assumes nothing.
use Prim.Native.Nat.{ℕ, zero, suc, ◌+◌, ◌%◌, ◌≤◌, ◌<◌}
use native.Mathlib.Omega.{arith}
use mathlib.Core.Path.{◌≡◌, refl, sym, ap, ◌∙◌, subst}
use mathlib.Core.Bool.{Bool, true, false, not, cond}
use mathlib.Core.List.{List, ◌++◌}
use lib.ListN.{length, take, drop, replicate, length-take}
use lib.Dec.{leb, ltb, eqb}
use lib.Ieee.{Float}
use borrow.Author.Tests.{eq-eqb, ne_eqb, eqb-true}
use Rattle.std.specs.Prelude.{Result, Ok, Err}
use Rattle.float.specs.Number.{f0}
use Rattle.float.specs.Answer.{ok}
use Rattle.float.specs.Answer.{refused as no}
use Rattle.float.specs.Refusal.{answer, number}
use Rattle.float.specs.declared.refusal.Refusal.{Refusal}
use Rattle.plane.specs.declared.Point.{Point}
use Rattle.limits.specs.Limits.{most_marks, most_numbered}
use Rattle.marks.specs.Marks.{count}
use Rattle.marks.specs.Block.{size_from, block_size}
use Rattle.ring.specs.Ring.{again, whole}
use Rattle.ring.specs.declared.Outline.{Outline}
use Rattle.ring.specs.declared.Outline.TheVariants.{Open, Closed}
use Rattle.ring.proofs.Whole.{again-small, whole_length, whole-count}
use Rattle.gate.specs.Gate.{Usable, refuse, gate_of}
use Rattle.gate.proofs.Tests.{never_zero, Passed, passed, passed-even}
use Rattle.ends.proofs.Usable.{usable-take, usable_append}
use Rattle.cut.specs.Run.{Run, refused, run_of}
use Rattle.cut.specs.Lent.{Left, Ready}
use Rattle.float.proofs.Slices.{front_length}
use Rattle.cut.proofs.Cut.{Done, is_done, is_refused}
use Rattle.tangents.specs.declared.Cutting.{Cutting}
use Rattle.tangents.specs.Ways.{outline_of, marks_of}
use Rattle.blocks.specs.Blocks.{blocks_of}
use Rattle.fit.specs.Fit.{ending, ended, entered, are_tangents, cubic_gate}

-- ---- block sizes

size_from_is : (k n : ℕ) → (50 ≤ size_from k n) × (size_from k n ≤ 50 + k)
unfolding size_from
size_from_is zero n = (omega arith, omega arith)
size_from_is (suc k) n = go (leb 50 (n % (50 + suc k))) (size_from_is k n)
  where
    go : (b : Bool) → (50 ≤ size_from k n) × (size_from k n ≤ 50 + k) → (50 ≤ cond b (50 + suc k) (size_from k n)) × (cond b (50 + suc k) (size_from k n) ≤ 50 + suc k)
    go true s = (omega arith, omega arith)
    go false s = (omega arith, omega arith)

pub size_within : (n s : ℕ) → s ≡ block_size n → (2 ≤ s) × (s ≤ 200)
unfolding block_size
size_within n s e = subst (λ (i : ℕ). (2 ≤ i) × (i ≤ 200)) (sym e) (go (ltb n 200))
  where
    go : (b : Bool) → (2 ≤ cond b 200 (size_from 150 n)) × (cond b 200 (size_from 150 n) ≤ 200)
    go true = (omega arith, omega arith)
    go false = let s = size_from_is 150 n in (omega arith, omega arith)

-- a run by blocks of s marks is one of t, where s is t
pub of_size : (k : Cutting) (ms : List Float) (tol : Float) (s t : ℕ) (r : Result ℕ Refusal) (C C₁ : List Float) (F F₁ W W₁ : List ℕ) (p : List Float) → s ≡ t → Left (blocks_of k ms s tol) r C C₁ F F₁ W W₁ p → Left (blocks_of k ms t tol) r C C₁ F F₁ W W₁ p
of_size k ms tol s t r C C₁ F F₁ W W₁ p e h = subst (λ (i : ℕ). Left (blocks_of k ms i tol) r C C₁ F F₁ W W₁ p) e h

-- ---- a passed gate

-- mark 0 again is in range as well
usable-whole : (o : Outline) {ms : List Float} {tol : Float} → Usable ms tol → Usable (whole o ms) tol
usable-whole Open u = u
usable-whole Closed u = usable_append u (usable-take 2 u)

pub passed-usable : {top : ℕ} {o : Outline} {ms : List Float} {tol : Float} {c f w p : ℕ} → Passed top o ms tol c f w p → Usable (whole o ms) tol
passed-usable {o = o} g = usable-whole o (record { near = g.near; tolerance = g.usable })

pub passed_ready : (top : ℕ) (o : Outline) (ms : List Float) (tol : Float) (C : List Float) (F W : List ℕ) (P : List Float) → top < most_numbered → Passed top o ms tol (length C) (length F) (length W) (length P) → Ready (whole o ms) 0 tol C F W (take (again o + count ms) P)
passed_ready top o ms tol C F W P t g =
    let n : length (take (again o + count ms) P) ≡ again o + count ms = simp length-take (let r = g.params in omega arith) in
    let l = whole_length o ms (passed-even g) in
    let s = again-small o in
    record { usable = passed-usable g; even = omega arith; two = omega arith; near = omega arith; curves = omega arith; firsts = omega arith; worsts = omega arith }

-- the same test and the same room, by equal outlines and equal counts
pub of_outline : (top : ℕ) (o o' : Outline) (ms : List Float) (tol : Float) (c f w p q : ℕ) → o ≡ o' → q ≡ gate_of top o ms tol c f w p → q ≡ gate_of top o' ms tol c f w p
of_outline top o o' ms tol c f w p q e h = subst (λ (o : Outline). q ≡ gate_of top o ms tol c f w p) e h

pub of_count : (ms : List Float) (tol : Float) (C : List Float) (F W : List ℕ) (P : List Float) (m n : ℕ) → n ≡ m → Ready ms 0 tol C F W (take m P) → Ready ms 0 tol C F W (take n P)
of_count ms tol C F W P m n e h = subst (λ (i : ℕ). Ready ms 0 tol C F W (take i P)) (sym e) h

pub cubic_passed : (ms : List Float) (s e : Point) (tol : Float) (c f w p : ℕ) → 0 ≡ cubic_gate ms s e tol c f w p → Passed 512 Open ms tol c f w p
unfolding cubic_gate
cubic_passed ms s e tol c f w p h = passed 512 Open ms tol c f w p (go (eqb (gate_of 512 Open ms tol c f w p) 0) refl (sym h))
  where
    go : (b : Bool) → eqb (gate_of 512 Open ms tol c f w p) 0 ≡ b → cond b (refuse (not (are_tangents s e)) 5 0) (gate_of 512 Open ms tol c f w p) ≡ 0 → gate_of 512 Open ms tol c f w p ≡ 0
    go true t h = eqb-true (gate_of 512 Open ms tol c f w p) 0 t
    go false t h = h

-- what is known behind the gate of a fit by blocks, of the n marks that are cut
pub record Within (k : Cutting) (ms : List Float) (tol : Float) (C : List Float) (F W : List ℕ) (P : List Float) (n : ℕ) : Type 0 where
  pub gate : gate_of most_marks (outline_of k) ms tol (length C) (length F) (length W) (length P) ≡ 0
  pub room : n ≤ length P
  pub all : n ≡ count (marks_of k ms)
  pub ready : Ready (marks_of k ms) 0 tol C F W (take n P)

pub within : (k : Cutting) (ms : List Float) (tol : Float) (C : List Float) (F W : List ℕ) (P : List Float) {o : Outline} {m : ℕ} → o ≡ outline_of k → 0 ≡ gate_of most_marks o ms tol (length C) (length F) (length W) (length P) → m ≡ again o
    → Within k ms tol C F W P (m + count ms)
within k ms tol C F W P {o} {m} is h e =
    let gate = of_outline most_marks o (outline_of k) ms tol (length C) (length F) (length W) (length P) 0 is h in
    let g = passed most_marks (outline_of k) ms tol (length C) (length F) (length W) (length P) (sym gate) in
    let q = g.params in
    let more : m ≡ again (outline_of k) = e ∙ ap again is in
    record {
      gate = sym gate;
      room = omega arith;
      all = rw more (sym (whole-count (outline_of k) ms (passed-even g)));
      ready = of_count (marks_of k ms) tol C F W P (again (outline_of k) + count ms) (m + count ms) (omega arith) (passed_ready most_marks (outline_of k) ms tol C F W P (omega arith) g);
    }

-- ---- the ends of a fit, of any run

-- a fit of n marks: its run, the lent slices, and what its gate says
pub record Fit : Type 0 where
  pub n : ℕ
  pub R : Run
  pub C : List Float
  pub F : List ℕ
  pub W : List ℕ
  pub P : List Float
  pub g : ℕ

-- the direct fit, and one by blocks
abbrev pub direct : List Float → Point → Point → Float → List Float → List ℕ → List ℕ → List Float → Fit
direct ms s e tol C F W P = record { n = count ms; R = run_of ms 0 s e tol; C = C; F = F; W = W; P = P; g = cubic_gate ms s e tol (length C) (length F) (length W) (length P) }

abbrev pub by_blocks : Cutting → List Float → Float → List Float → List ℕ → List ℕ → List Float → ℕ → Fit
by_blocks k ms tol C F W P n =
    record { n = n; R = blocks_of k (marks_of k ms) (block_size (count (marks_of k ms))) tol; C = C; F = F; W = W; P = P; g = gate_of most_marks (outline_of k) ms tol (length C) (length F) (length W) (length P) }

pub end_gate : (K : Fit) (q : Refusal) → number q ≡ K.g → ending (no (number q)) K.C K.F K.W K.P ≡ entered K.g K.R K.C K.F K.W K.P
end_gate K q h = rw (← h, ne_eqb (number q) 0 (never_zero q))

-- the run of one that its gate let through
pub record Ran (K : Fit) : Type 0 where
  pub passed : K.g ≡ 0
  pub room : K.n ≤ length K.P
  pub out : Result ℕ Refusal
  pub C₁ : List Float
  pub F₁ : List ℕ
  pub W₁ : List ℕ
  pub p : List Float
  pub left : Left K.R out K.C C₁ K.F F₁ K.W W₁ p
  pub lc : length C₁ ≡ length K.C
  pub lf : length F₁ ≡ length K.F
  pub lw : length W₁ ≡ length K.W
  pub lp : length p ≡ length (take K.n K.P)

-- the same by what the run left
abbrev pub ran : (K : Fit) (out : Result ℕ Refusal) (C₁ : List Float) (F₁ W₁ : List ℕ) (p : List Float) → K.g ≡ 0 → K.n ≤ length K.P → Left K.R out K.C C₁ K.F F₁ K.W W₁ p → length C₁ ≡ length K.C → length F₁ ≡ length K.F → length W₁ ≡ length K.W → length p ≡ length (take K.n K.P) → Ran K
ran K out C₁ F₁ W₁ p passed room left lc lf lw lp = record { passed = passed; room = room; out = out; C₁ = C₁; F₁ = F₁; W₁ = W₁; p = p; left = left; lc = lc; lf = lf; lw = lw; lp = lp }

module _ (K : Fit) (D : Ran K) where
  -- the parameters when their part is back
  abbrev pub P₁ : List Float
  P₁ = D.p ++ drop K.n K.P

  pub as_long : length P₁ ≡ length K.P
  as_long = front_length K.n K.P D.p D.room D.lp

  through : entered K.g K.R K.C K.F K.W K.P ≡ ended K.R K.C K.F K.W K.P
  through = rw (eq-eqb K.g 0 D.passed)

  -- refused: what zero_all leaves is as long as before
  pub end_refused : (q : Refusal) (C₂ : List Float) (F₂ W₂ : List ℕ) (P₂ : List Float) → D.out ≡ Err q → C₂ ≡ replicate (length D.C₁) f0 → F₂ ≡ replicate (length D.F₁) 0 → W₂ ≡ replicate (length D.W₁) 0 → P₂ ≡ replicate (length P₁) f0
      → ending (answer D.out) C₂ F₂ W₂ P₂ ≡ entered K.g K.R K.C K.F K.W K.P
  end_refused q C₂ F₂ W₂ P₂ o ec ef ew ep = go K.R (is_refused K.R D.out q K.C D.C₁ K.F D.F₁ K.W D.W₁ D.p D.left o) ∙ sym through
    where
      go : (S : Run) → S ≡ refused (number q) → ending (answer D.out) C₂ F₂ W₂ P₂ ≡ ended S K.C K.F K.W K.P
      go S is = rw (is, o, ec, ef, ew, ep, D.lc, D.lf, D.lw, as_long)

  pub end_done : (k : ℕ) → D.out ≡ Ok k → ending (ok k) D.C₁ D.F₁ D.W₁ P₁ ≡ entered K.g K.R K.C K.F K.W K.P
  end_done k o = go K.R (is_done K.R D.out k K.C D.C₁ K.F D.F₁ K.W D.W₁ D.p D.left o) ∙ sym through
    where
      long : length D.p ≡ K.n
      long = let r = D.room in D.lp ∙ simp length-take (omega arith)

      go : (S : Run) → Done S k K.C D.C₁ K.F D.F₁ K.W D.W₁ D.p → ending (ok k) D.C₁ D.F₁ D.W₁ P₁ ≡ ended S K.C K.F K.W K.P
      go S E = rw (E.is, E.curves, E.firsts, E.worsts, E.long, long)
