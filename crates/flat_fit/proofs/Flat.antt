-- The ends of a fit of the second engine, by the laws of the first's. Assumes nothing.
use Prim.Native.Nat.{ℕ, ◌+◌, ◌-◌, ◌*◌, ◌≤◌, ◌<◌}
use native.Mathlib.Omega.{arith}
use mathlib.Core.Path.{◌≡◌, refl, sym, ap, ◌∙◌, subst}
use mathlib.Core.Bool.{Bool, true, false, ◌&&◌, ◌||◌, cond}
use mathlib.Core.List.{List}
use lib.ListN.{length, replicate}
use lib.Dec.{eqb, ltb}
use lib.Ieee.{Float}
use borrow.Author.Tests.{eq-eqb, ne_eqb, ltb-true, ltb-false}
use Rattle.std.specs.Prelude.{Result}
use Rattle.float.specs.Refusal.{number}
use Rattle.float.specs.declared.refusal.Refusal.{Refusal}
use Rattle.float.specs.declared.refusal.Refusal.TheVariants.{OutOfRange}
use Rattle.float.proofs.Refusals.{numbers_differ}
use Rattle.limits.specs.Limits.{most_marks, most_numbered}
use Rattle.marks.specs.Marks.{count}
use Rattle.marks.specs.Block.{block_size}
use Rattle.ring.specs.Ring.{again}
use Rattle.ring.specs.declared.Outline.{Outline}
use Rattle.ring.specs.declared.Outline.TheVariants.{Closed}
use Rattle.ring.proofs.Whole.{whole-count}
use Rattle.gate.specs.Gate.{gate_of}
use Rattle.gate.proofs.Tests.{never_zero, Passed, passed, passed-even}
use Rattle.cut.specs.Run.{Run, refused, done}
use Rattle.cut.specs.Lent.{Left}
use Rattle.tangents.specs.declared.Ways.{Ways}
use Rattle.tangents.specs.declared.Cutting.{Cutting}
use Rattle.tangents.specs.Ways.{outline_of}
use Rattle.fit.specs.Fit.{Ending, entered, cubic_gate}
use Rattle.fit.proofs.Entries.{cubic_passed, size_within, Fit}
use Rattle.parts.specs.declared.Heading.{Heading}
use Rattle.parts.specs.declared.Heading.TheVariants.{Given, By}
use Rattle.parts.specs.Headings.{outline_in, marks_in}
use Rattle.waiting.specs.Waiting.{run_in}
use Rattle.waiting.specs.Lent.{Joins, Meeting}
use Rattle.flat_fit.specs.Flat.{gate_in, open_gate, none_open, flat_entered}
use Rattle.flat_fit.specs.Sizes.{SizeIn}

-- ---- the tests

module _ (g o n : ℕ) where
  -- with room for open parts the tests are the first engine's
  pub roomy : 2 * n ≤ o → g ≡ open_gate g o n
  roomy h = go (ltb o (2 * n)) refl
    where
      go : (b : Bool) → ltb o (2 * n) ≡ b → g ≡ cond (b && (eqb g 0 || eqb g 5)) 4 g
      go true e = let l = ltb-true o (2 * n) e in absurd (omega arith)
      go false e = refl

  -- without it they are where they refuse by another number than 5
  shorter : o < 2 * n → (b : Bool) → (eqb g 0 || eqb g 5) ≡ b → cond b 4 g ≡ open_gate g o n
  shorter short b e = go (ltb o (2 * n)) refl
    where
      go : (a : Bool) → ltb o (2 * n) ≡ a → cond b 4 g ≡ cond (a && (eqb g 0 || eqb g 5)) 4 g
      go true x = rw e
      go false x = let l = ltb-false o (2 * n) x in absurd (omega arith)

module _ (o n : ℕ) (short : o < 2 * n) where
  pub no_room : 4 ≡ open_gate 0 o n
  no_room = shorter 0 o n short true refl

  pub no_room_first : 4 ≡ open_gate 5 o n
  no_room_first = shorter 5 o n short true refl

  pub other_first : (q : Refusal) → (q ≡ OutOfRange → ⊥) → number q ≡ open_gate (number q) o n
  other_first q h = shorter (number q) o n short false (rw (ne_eqb (number q) 0 (never_zero q), ne_eqb (number q) 5 (λ e. h (numbers_differ q OutOfRange e))))

-- an open gate: the first engine's is open, and there is room
pub opened : (g o n : ℕ) → open_gate g o n ≡ 0 → (g ≡ 0) × (2 * n ≤ o)
opened g o n h = go (ltb o (2 * n)) (eqb g 0 || eqb g 5) refl refl h
  where
    go : (a b : Bool) → ltb o (2 * n) ≡ a → (eqb g 0 || eqb g 5) ≡ b → cond (a && b) 4 g ≡ 0 → (g ≡ 0) × (2 * n ≤ o)
    go true true x y z = absurd (omega arith)
    go true false x y z =
        let e : true ≡ false = ap (λ (t : Bool). t || eqb g 5) (sym (eq-eqb g 0 z)) ∙ y in
        let u : ◌≡◌ {A = ℕ} 0 1 = cc in
        absurd (omega arith)
    go false b x y z = (z, ltb-false o (2 * n) x)

-- how many marks are taken
abbrev pub top_in : Heading → ℕ
top_in (Given w) = 512
top_in (By k) = most_marks

pub top_small : (h : Heading) → top_in h < most_numbered
top_small (Given w) = omega arith
top_small (By k) = omega arith

pub passed_in : (h : Heading) (ms : List Float) (tol : Float) (c f w p : ℕ) → gate_in h ms tol c f w p ≡ 0 → Passed (top_in h) (outline_in h) ms tol c f w p
passed_in (Given v) ms tol c f w p e = cubic_passed ms v.start v.end tol c f w p (sym e)
passed_in (By k) ms tol c f w p e = passed most_marks (outline_of k) ms tol c f w p e

-- ---- the size of a block

pub size_some : (h : Heading) (n s : ℕ) → 2 ≤ n → SizeIn h n s → 0 < s
size_some (Given w) n s t e = omega arith
size_some (By k) n s t e = let w = size_within n s e in omega (arith, w)

pub size-closed : (h : Heading) (n s : ℕ) → SizeIn h n s → outline_in h ≡ Closed → s ≤ 200
size-closed (Given w) n s e o = let z : ◌≡◌ {A = ℕ} 0 1 = cc in absurd (omega arith)
size-closed (By k) n s e o = (size_within n s e).1

pub size-meets : (h : Heading) (n m s : ℕ) → Joins h → SizeIn h n s → m ≡ n → Meeting h m s
size-meets (Given w) n m s j e i = e ∙ sym i
size-meets (By k) n m s j e i = j

-- a run by blocks of that size is the run that is asked for
pub sized : (h : Heading) (ms : List Float) (tol : Float) (n s : ℕ) (r : Result ℕ Refusal) (C C₁ : List Float) (F F₁ W W₁ : List ℕ) (p : List Float) → SizeIn h n s → n ≡ count ms
    → Left (run_in h ms s tol) r C C₁ F F₁ W W₁ p → Left (run_in h ms (block_size (count ms)) tol) r C C₁ F F₁ W W₁ p
sized (Given w) ms tol n s r C C₁ F F₁ W W₁ p e i left = left
sized (By k) ms tol n s r C C₁ F F₁ W W₁ p e i left = subst (λ (j : ℕ). Left (run_in (By k) ms j tol) r C C₁ F F₁ W W₁ p) (e ∙ ap block_size i) left

-- ---- the ends of a fit

pub none_open_is : (R : Run) (O : List ℕ) → replicate (length O) 0 ≡ none_open R O
none_open_is (refused q) O = refl
none_open_is (done cs bs ps) O = refl

-- what it leaves, and the slice of open parts: as it was where the gate refused, and else zeros
module _ {X : Ending} (g : ℕ) (R : Run) (C : List Float) (F W : List ℕ) (P : List Float) (O : List ℕ) (e : X ≡ entered g R C F W P) where
  pub shut : (q : Refusal) → number q ≡ g → record { fit = X; parts = O } ≡ flat_entered g R C F W P O
  shut q t = let o : O ≡ cond (eqb g 0) (none_open R O) O = rw (← t, ne_eqb (number q) 0 (never_zero q)) in λ i. record { fit = e i; parts = o i }

  pub through : g ≡ 0 → (O₁ O₂ : List ℕ) → O₂ ≡ replicate (length O₁) 0 → length O₁ ≡ length O → record { fit = X; parts = O₂ } ≡ flat_entered g R C F W P O
  through h O₁ O₂ z l = let o : O₂ ≡ cond (eqb g 0) (none_open R O) O = rw (eq-eqb g 0 h, z, l) (none_open_is R O) in λ i. record { fit = e i; parts = o i }

-- a fit of the second engine, as one of the first; n is how many marks are cut
abbrev pub flat : Heading → List Float → Float → List Float → List ℕ → List ℕ → List Float → List ℕ → ℕ → Fit
flat h ms tol C F W P O n =
    record { n = n; R = run_in h (marks_in h ms) (block_size (count (marks_in h ms))) tol; C = C; F = F; W = W; P = P; g = open_gate (gate_in h ms tol (length C) (length F) (length W) (length P)) (length O) (count ms) }

-- what is known behind its tests
pub record Within (h : Heading) (ms : List Float) (tol : Float) (C : List Float) (F W : List ℕ) (P : List Float) (O : List ℕ) (n : ℕ) : Type 0 where
  pub gate : open_gate (gate_in h ms tol (length C) (length F) (length W) (length P)) (length O) (count ms) ≡ 0
  pub passed : Passed (top_in h) (outline_in h) ms tol (length C) (length F) (length W) (length P)
  pub space : 2 * count ms ≤ length O
  pub many : n ≡ again (outline_in h) + count ms
  pub two : 2 ≤ n
  pub room : n ≤ length P
  pub all : n ≡ count (marks_in h ms)

pub within : (h : Heading) (ms : List Float) (tol : Float) (C : List Float) (F W : List ℕ) (P : List Float) (O : List ℕ) {g m : ℕ} {o : Outline}
    → 0 ≡ open_gate g (length O) (count ms) → g ≡ gate_in h ms tol (length C) (length F) (length W) (length P) → o ≡ outline_in h → m ≡ again o → Within h ms tol C F W P O (m + count ms)
within h ms tol C F W P O {g} {m} {o} z is e i =
    let gate : open_gate (gate_in h ms tol (length C) (length F) (length W) (length P)) (length O) (count ms) ≡ 0 = sym (z ∙ ap (λ (g : ℕ). open_gate g (length O) (count ms)) is) in
    let first = opened (gate_in h ms tol (length C) (length F) (length W) (length P)) (length O) (count ms) gate in
    let p = passed_in h ms tol (length C) (length F) (length W) (length P) first.0 in
    let t = p.two in
    let r = p.params in
    let more : m ≡ again (outline_in h) = i ∙ ap again e in
    record { gate = gate; passed = p; space = first.1; many = omega arith; two = omega arith; room = omega arith; all = rw more (sym (whole-count (outline_in h) ms (passed-even p))) }

-- ---- by cases of the heading

module _ (h : Heading) where
  pub given-gate : (v : Ways) (ms : List Float) (tol : Float) (c f w p q : ℕ) → h ≡ Given v → q ≡ cubic_gate ms v.start v.end tol c f w p → q ≡ gate_in h ms tol c f w p
  given-gate v ms tol c f w p q e i = rw e i

  pub by_gate : (k : Cutting) (ms : List Float) (tol : Float) (c f w p q : ℕ) → h ≡ By k → q ≡ gate_of most_marks (outline_of k) ms tol c f w p → q ≡ gate_in h ms tol c f w p
  by_gate k ms tol c f w p q e i = rw e i

  pub given-size : (v : Ways) (n : ℕ) → h ≡ Given v → 2 ≤ n → SizeIn h n (n - 1)
  given-size v n e t = rw e (omega arith)

  pub by_size : (k : Cutting) (n s : ℕ) → h ≡ By k → s ≡ block_size n → SizeIn h n s
  by_size k n s e i = rw e i
