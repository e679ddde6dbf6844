-- What the cycle {fit_part, cut_part} cites: plain laws, of lists and runs, with no place of the code in them. Assumes nothing.
use Prim.Native.Nat.{ℕ, ◌+◌, ◌-◌, ◌*◌, ◌≤◌, ◌<◌}
use native.Mathlib.Omega.{arith}
use mathlib.Core.Path.{◌≡◌, refl, sym, ap, ◌∙◌, subst}
use mathlib.Core.List.{List, [], ◌∷◌, ◌++◌, map, map-append}
use lib.ListN.{length, take, drop, set, length-append, length-take, length-drop, length-map}
use lib.Seq.{take_all}
use lib.Ieee.{Float}
use Rattle.std.specs.Prelude.{Result, Ok, Err}
use Rattle.float.specs.Answer.{Answer, ok, outcome}
use Rattle.float.specs.Answer.{refused as no}
use Rattle.float.specs.Refusal.{answer, number}
use Rattle.float.specs.declared.refusal.Refusal.{Refusal}
use Rattle.float.specs.Slices.{written}
use Rattle.float.proofs.Slices.{written_behind, params-join, front_length}
use Rattle.plane.specs.declared.Point.{Point}
use Rattle.marks.specs.Marks.{count}
use Rattle.form.specs.Form.{record_numbers}
use Rattle.part.specs.Part.{Part, fits, cuts, fails, part_of}
use Rattle.part.specs.Answers.{Did, told}
use Rattle.part.specs.declared.Solved.{Solved}
use Rattle.part.specs.declared.Unfitted.{Unfitted}
use Rattle.part.specs.declared.Unfitted.TheVariants.{Cut}
use Rattle.part.specs.declared.Unfitted.TheVariants as unfitted
use Rattle.gate.specs.Gate.{Usable}
use Rattle.ends.proofs.Usable.{usable-take}
use Rattle.ends.specs.Rounds.{Inside}
use Rattle.ends.proofs.Parts.{Fits, Sound, part_sound, cuts-inside}
use Rattle.cut.specs.Run.{Run, refused, done, Beside, firsts_of, worsts_of, flat, left_of, right_of, join, run_of, cut_of}
use Rattle.tangents.specs.Ways.{ways_at}
use Rattle.cut.specs.Lent.{Left, Ready}
use Rattle.tangents.specs.declared.Ways.{Ways}
use Rattle.cut.proofs.Run.{run_sized, Sized, run_fits, run-fails, run-cuts, left_count, usable_left, usable_right}

-- ---- an answer of the code, where a definition refuses

no_value : {A X : Type 0} {r : Result A Refusal} {a : A} {x : ℕ} → answer r ≡ no x → r ≡ Ok a → X
no_value {A} {X} {r} {a} {x} h e =
    let f : no x ≡ ok a = sym h ∙ ap answer e in
    let z : ◌≡◌ {A = ℕ} 0 1 = cc in
    absurd (omega arith)

same_number : {A : Type 0} {r : Result A Refusal} {q : Refusal} {x : ℕ} → answer r ≡ no x → r ≡ Err q → x ≡ number q
same_number {A} {r} {q} {x} h e = let f : ◌≡◌ {A = Answer A} (no x) (no (number q)) = sym h ∙ ap answer e in cc

-- ---- a leaf's answer

pub from_good : (P : Part) (r : Result Solved Unfitted) (p : List Float) (k : Solved) → Did P r p → r ≡ Ok k → P ≡ fits k.curve k.far p
from_good P r p k h e = sym h ∙ ap (λ r. told r p) e

pub from_cut : (P : Part) (r : Result Solved Unfitted) (p : List Float) (k : ℕ) → Did P r p → r ≡ Err (Cut k) → P ≡ cuts k
from_cut P r p k h e = sym h ∙ ap (λ r. told r p) e

pub from_refused : (P : Part) (r : Result Solved Unfitted) (p : List Float) (q : Refusal) → Did P r p → r ≡ Err (unfitted.Refused q) → P ≡ fails (number q)
from_refused P r p q h e = sym h ∙ ap (λ r. told r p) e

-- ---- a run's answer

-- a run that gave j curves
pub record Done (R : Run) (j : ℕ) (C C₁ : List Float) (F F₁ W W₁ : List ℕ) (p : List Float) : Type 0 where
  pub cs : List Float
  pub bs : List Beside
  pub is : R ≡ done cs bs p
  pub long : length bs ≡ j
  pub curves : C₁ ≡ written cs C
  pub firsts : F₁ ≡ written (firsts_of bs) F
  pub worsts : W₁ ≡ written (worsts_of bs) W

pub is_done : (R : Run) (r : Result ℕ Refusal) (j : ℕ) (C C₁ : List Float) (F F₁ W W₁ : List ℕ) (p : List Float) → Left R r C C₁ F F₁ W W₁ p → r ≡ Ok j → Done R j C C₁ F F₁ W W₁ p
is_done (refused q) r j C C₁ F F₁ W W₁ p h e = no_value h e
is_done (done cs bs ps) r j C C₁ F F₁ W W₁ p h e =
    let f : Ok (length bs) ≡ Ok j = sym h.0 ∙ e in
    record { cs = cs; bs = bs; is = rw h.4; long = cc; curves = h.1; firsts = h.2; worsts = h.3 }

-- a run that gave a refusal
pub is_refused : (R : Run) (r : Result ℕ Refusal) (q : Refusal) (C C₁ : List Float) (F F₁ W W₁ : List ℕ) (p : List Float) → Left R r C C₁ F F₁ W W₁ p → r ≡ Err q → R ≡ refused (number q)
is_refused (refused x) r q C C₁ F F₁ W W₁ p h e = ap refused (same_number h e)
is_refused (done cs bs ps) r q C C₁ F F₁ W W₁ p h e = let f = h.0 in let z : ◌≡◌ {A = ℕ} 0 1 = cc in absurd (omega arith)

-- both sides are done
pub both_done : (k : ℕ) (R R' : Run) (cs cs' : List Float) (bs bs' : List Beside) (p p' : List Float) (j j' : ℕ) (C C₂ : List Float) (F F₂ W W₂ : List ℕ) (p₂ : List Float)
    → R ≡ done cs bs p → R' ≡ done cs' bs' p' → length bs ≡ j → length bs' ≡ j'
    → C₂ ≡ written (cs ++ cs') C → F₂ ≡ written (firsts_of (bs ++ bs')) F → W₂ ≡ written (worsts_of (bs ++ bs')) W → p₂ ≡ take k p ++ p'
    → Left (join k R R') (Ok (j + j')) C C₂ F F₂ W W₂ p₂
both_done k R R' cs cs' bs bs' p p' j j' C C₂ F F₂ W W₂ p₂ e e' l l' ec ef ew ep =
    rw (e, e') (rw (length-append, l, l') refl, ec, ef, ew, ep)

-- of each curve the one number or the other, of the left side's curves and then of the right's
pub beside-behind : (f : Beside → ℕ) (bs bs' : List Beside) (X X₁ E : List ℕ) (j b : ℕ) → X₁ ≡ written (map f bs) X → length bs ≡ j → b ≡ length X₁ - j
    → E ≡ written (map f bs') (take b (drop j X₁)) → take j X₁ ++ (E ++ drop b (drop j X₁)) ≡ written (map f (bs ++ bs')) X
beside-behind f bs bs' X X₁ E j b e l lb d =
    written_behind (map f bs) (map f bs') X X₁ E j b e (length-map bs f ∙ l) lb d
    ∙ ap (λ xs. written xs X) (sym (map-append f bs bs'))

-- ---- fit_part's returns

module _ (ms : List Float) (first : ℕ) (s e : Point) (tol : Float) (h : 2 ≤ count ms) (u : Usable ms tol) (r : Result Solved Unfitted) (p : List Float) (did : Did (part_of ms s e tol) r p) where
  pub fit_good : (k : Solved) (C C₁ : List Float) (F F₁ W W₁ : List ℕ) → r ≡ Ok k → C₁ ≡ written (flat k.curve k.far.err) C
      → F₁ ≡ written (first ∷ []) F → W₁ ≡ written ((first + k.far.at) ∷ []) W → Left (run_of ms first s e tol) (Ok 1) C C₁ F F₁ W W₁ p
  fit_good k C C₁ F F₁ W W₁ q ec ef ew = rw (run_fits ms first s e tol h k.curve k.far p (from_good _ r p k did q)) (refl, ec, ef, ew, refl)

  -- the worst mark is a mark of the part
  pub worst_within : (k : Solved) → r ≡ Ok k → k.far.at < count ms
  worst_within k q = let good : Fits ms tol k.curve k.far p = subst (Sound ms tol) (from_good (part_of ms s e tol) r p k did q) (part_sound ms tol h u s e) in good.among

  pub fit_cut : (k : ℕ) (r' : Result ℕ Refusal) (C C₁ : List Float) (F F₁ W W₁ : List ℕ) (p₁ : List Float) → r ≡ Err (Cut k) → Left (cut_of ms k first s e tol) r' C C₁ F F₁ W W₁ p₁ → Left (run_of ms first s e tol) r' C C₁ F F₁ W W₁ p₁
  fit_cut k r' C C₁ F F₁ W W₁ p₁ q g = rw (run-cuts ms first s e tol h u k (from_cut _ r p k did q)) g

  pub fit_refused : (q : Refusal) (C C₁ : List Float) (F F₁ W W₁ : List ℕ) (p₁ : List Float) → r ≡ Err (unfitted.Refused q) → Left (run_of ms first s e tol) (Err q) C C₁ F F₁ W W₁ p₁
  fit_refused q C C₁ F F₁ W W₁ p₁ is = rw (run-fails ms first s e tol h (number q) (from_refused _ r p q did is)) refl

pub sizes : (ms : List Float) (first : ℕ) (s e : Point) (tol : Float) (cs : List Float) (bs : List Beside) (p : List Float) → 2 ≤ count ms → Usable ms tol → run_of ms first s e tol ≡ done cs bs p → Sized ms first (done cs bs p)
sizes ms first s e tol cs bs p h u q = rw q at (run_sized ms first s e tol h u)

pub set_first : (a : ℕ) (F : List ℕ) → 0 < length F → set F 0 a ≡ written (a ∷ []) F
set_first a [] h = absurd (omega arith)
set_first a (x ∷ F) h = refl

-- ---- fit_part calls cut_part

pub cut_asks : (ms : List Float) (first : ℕ) (s e : Point) (tol : Float) (C : List Float) (F W : List ℕ) (P p : List Float) (r : Result Solved Unfitted) (k : ℕ)
    → Ready ms first tol C F W P → length p ≡ length P → Did (part_of ms s e tol) r p → r ≡ Err (Cut k) → Ready ms first tol C F W p × ((0 < k) × (k + 1 < length p))
cut_asks ms first s e tol C F W P p r k ready l did q =
    let n : count ms ≡ length P = omega arith in
    let inside : Inside ms k = cuts-inside ms s e tol k (omega arith) ready.usable (from_cut (part_of ms s e tol) r p k did q) in
    (record { usable = ready.usable; even = omega arith; two = omega arith; near = omega arith; curves = omega arith; firsts = omega arith; worsts = omega arith }, (inside.0, omega (arith, inside.1)))

-- ---- cut_part calls fit_part at the left, and at the right

-- a call of cut_part: its arguments, and what it asks
pub record Call : Type 0 where
  pub ms : List Float
  pub at : ℕ
  pub first : ℕ
  pub s : Point
  pub e : Point
  pub tol : Float
  pub C : List Float
  pub F : List ℕ
  pub W : List ℕ
  pub P : List Float
  pub ready : Ready ms first tol C F W P
  pub low : 0 < at
  pub high : at + 1 < length P

-- the same by what is known at its place
abbrev pub call : {ms : List Float} {first : ℕ} {tol : Float} {C : List Float} {F W : List ℕ} {P : List Float} (at : ℕ) (s e : Point) → Ready ms first tol C F W P → (0 < at) × (at + 1 < length P) → Call
call {ms} {first} {tol} {C} {F} {W} {P} at s e ready inside =
    record { ms = ms; at = at; first = first; s = s; e = e; tol = tol; C = C; F = F; W = W; P = P; ready = ready; low = inside.0; high = inside.1 }

pub cut_refused : (K : Call) (q : Refusal) (C₂ : List Float) (F₂ W₂ : List ℕ) (p₂ : List Float) → outcome (ways_at K.ms K.at) ≡ no (number q)
    → Left (cut_of K.ms K.at K.first K.s K.e K.tol) (Err q) K.C C₂ K.F F₂ K.W W₂ p₂
cut_refused K q C₂ F₂ W₂ p₂ e = rw e refl

pub ready_left : (K : Call) → Ready (left_of K.at K.ms) K.first K.tol K.C K.F K.W (take (K.at + 1) K.P)
ready_left K =
    let ready = K.ready in
    record {
      usable = usable_left K.at ready.usable;
      even = simp length-take (omega arith);
      two = simp length-take (omega arith);
      near = simp length-take (omega arith);
      curves = simp length-take (omega arith);
      firsts = simp length-take (omega arith);
      worsts = simp length-take (omega arith);
    }

pub less_left : (K : Call) → length (left_of K.at K.ms) + 1 < length K.ms
less_left K = let ready = K.ready in simp length-take (omega arith)

-- the left side's run, at the tangents T, and the right's
abbrev pub left_run : Call → Ways → Run
left_run K T = run_of (left_of K.at K.ms) K.first K.s T.end K.tol

abbrev pub right_run : Call → Ways → Run
right_run K T = run_of (right_of K.at K.ms) (K.first + K.at) T.start K.e K.tol

pub cut_is : (K : Call) (T : Ways) → outcome (ways_at K.ms K.at) ≡ ok T → cut_of K.ms K.at K.first K.s K.e K.tol ≡ join K.at (left_run K T) (right_run K T)
cut_is K T e = rw e

-- what is known once the left side has given j curves
pub record Half (K : Call) : Type 0 where
  pub T : Ways
  pub is : cut_of K.ms K.at K.first K.s K.e K.tol ≡ join K.at (left_run K T) (right_run K T)
  pub j : ℕ
  pub C₁ : List Float
  pub F₁ : List ℕ
  pub W₁ : List ℕ
  pub p : List Float
  pub side : Done (left_run K T) j K.C C₁ K.F F₁ K.W W₁ p
  pub lc : length C₁ ≡ length K.C
  pub lf : length F₁ ≡ length K.F
  pub lw : length W₁ ≡ length K.W
  pub each : length p ≡ length (take (K.at + 1) K.P)

-- the same by what the left side answered
abbrev pub half : (K : Call) {T : Ways} → outcome (ways_at K.ms K.at) ≡ ok T → {r : Result ℕ Refusal} {j : ℕ} (C₁ : List Float) (F₁ W₁ : List ℕ) (p : List Float) → Left (left_run K T) r K.C C₁ K.F F₁ K.W W₁ p → r ≡ Ok j
    → length C₁ ≡ length K.C → length F₁ ≡ length K.F → length W₁ ≡ length K.W → length p ≡ length (take (K.at + 1) K.P) → Half K
half K {T} ways {r} {j} C₁ F₁ W₁ p left is lc lf lw each =
    record { T = T; is = cut_is K T ways; j = j; C₁ = C₁; F₁ = F₁; W₁ = W₁; p = p; side = is_done (left_run K T) r j K.C C₁ K.F F₁ K.W W₁ p left is; lc = lc; lf = lf; lw = lw; each = each }

module _ (K : Call) (H : Half K) where
  -- the numbers that the needs of the second call are worked out from
  pub record Numbers : Type 0 where
    pub ready : Ready K.ms K.first K.tol K.C K.F K.W K.P
    pub low : 0 < K.at
    pub high : K.at + 1 < length K.P
    pub few : H.j ≤ K.at
    pub nine : length H.side.cs ≡ record_numbers * H.j
    pub lc : length H.C₁ ≡ length K.C
    pub lf : length H.F₁ ≡ length K.F
    pub lw : length H.W₁ ≡ length K.W
    pub le : length H.p ≡ K.at + 1
    pub lp : length (H.p ++ drop (K.at + 1) K.P) ≡ length K.P

  pub numbers : Numbers
  numbers =
      let ready = K.ready in
      let high = K.high in
      let n : count (left_of K.at K.ms) ≡ K.at + 1 = left_count K.at K.ms (omega arith) in
      let z = sizes (left_of K.at K.ms) K.first K.s H.T.end K.tol H.side.cs H.side.bs H.p (omega arith) (usable_left K.at ready.usable) H.side.is in
      let l = H.side.long in
      record {
        ready = ready;
        low = K.low;
        high = high;
        few = omega (arith, z.1);
        nine = omega (arith, z.2);
        lc = H.lc;
        lf = H.lf;
        lw = H.lw;
        le = omega (arith, z.3);
        lp = front_length (K.at + 1) K.P H.p (omega arith) H.each;
      }

  -- the slices as they stand after the left side
  abbrev pub P₁ : List Float
  P₁ = H.p ++ drop (K.at + 1) K.P

  pub ready_right : Ready (take (length K.ms - 2 * K.at) (drop (2 * K.at) K.ms)) (K.first + K.at) K.tol (take (length H.C₁ - record_numbers * H.j) (drop (record_numbers * H.j) H.C₁)) (take (length H.F₁ - H.j) (drop H.j H.F₁)) (take (length H.W₁ - H.j) (drop H.j H.W₁)) (take (length P₁ - K.at) (drop K.at P₁))
  ready_right =
      let n = numbers in
      let ready = n.ready in
      let lp = n.lp in
      record {
        usable = usable-take (length K.ms - 2 * K.at) (usable_right K.at ready.usable);
        even = simp (length-take, length-drop) (omega (arith, n));
        two = simp (length-take, length-drop) (omega (arith, n));
        near = simp (length-take, length-drop) (omega (arith, n));
        curves = simp (length-take, length-drop) (omega (arith, n));
        firsts = simp (length-take, length-drop) (omega (arith, n));
        worsts = simp (length-take, length-drop) (omega (arith, n));
      }

  pub less_right : length (take (length K.ms - 2 * K.at) (drop (2 * K.at) K.ms)) + 1 < length K.ms
  less_right = let n = numbers in simp (length-take, length-drop) (omega (arith, n))

  -- what the right side answered, and what it left of the parts that it was lent
  pub record Right : Type 0 where
    pub r : Result ℕ Refusal
    pub D₁ : List Float
    pub E₁ : List ℕ
    pub V₁ : List ℕ
    pub p' : List Float
    pub left : Left (run_of (take (length K.ms - 2 * K.at) (drop (2 * K.at) K.ms)) (K.first + K.at) H.T.start K.e K.tol) r (take (length H.C₁ - record_numbers * H.j) (drop (record_numbers * H.j) H.C₁)) D₁ (take (length H.F₁ - H.j) (drop H.j H.F₁)) E₁ (take (length H.W₁ - H.j) (drop H.j H.W₁)) V₁ p'

  -- the same by its contract
  abbrev pub right : (r : Result ℕ Refusal) (D₁ : List Float) (E₁ V₁ : List ℕ) (p' : List Float) → Left (run_of (take (length K.ms - 2 * K.at) (drop (2 * K.at) K.ms)) (K.first + K.at) H.T.start K.e K.tol) r (take (length H.C₁ - record_numbers * H.j) (drop (record_numbers * H.j) H.C₁)) D₁ (take (length H.F₁ - H.j) (drop H.j H.F₁)) E₁ (take (length H.W₁ - H.j) (drop H.j H.W₁)) V₁ p' → Right
  right r D₁ E₁ V₁ p' left = record { r = r; D₁ = D₁; E₁ = E₁; V₁ = V₁; p' = p'; left = left }

  module _ (R : Right) where
    -- the four lent slices when their parts are back
    abbrev pub C₂ : List Float
    C₂ = take (record_numbers * H.j) H.C₁ ++ (R.D₁ ++ drop (length H.C₁ - record_numbers * H.j) (drop (record_numbers * H.j) H.C₁))

    abbrev pub F₂ : List ℕ
    F₂ = take H.j H.F₁ ++ (R.E₁ ++ drop (length H.F₁ - H.j) (drop H.j H.F₁))

    abbrev pub W₂ : List ℕ
    W₂ = take H.j H.W₁ ++ (R.V₁ ++ drop (length H.W₁ - H.j) (drop H.j H.W₁))

    abbrev pub P₂ : List Float
    P₂ = take K.at P₁ ++ (R.p' ++ drop (length P₁ - K.at) (drop K.at P₁))

    -- the right side's run, of the marks as the definition has them
    ran : Left (right_run K H.T) R.r (take (length H.C₁ - record_numbers * H.j) (drop (record_numbers * H.j) H.C₁)) R.D₁ (take (length H.F₁ - H.j) (drop H.j H.F₁)) R.E₁ (take (length H.W₁ - H.j) (drop H.j H.W₁)) R.V₁ R.p'
    ran = rw (take_all (length K.ms - 2 * K.at) (drop (2 * K.at) K.ms) (simp length-drop (omega arith))) at R.left

    abbrev did : (k : ℕ) → R.r ≡ Ok k → Done (right_run K H.T) k (take (length H.C₁ - record_numbers * H.j) (drop (record_numbers * H.j) H.C₁)) R.D₁ (take (length H.F₁ - H.j) (drop H.j H.F₁)) R.E₁ (take (length H.W₁ - H.j) (drop H.j H.W₁)) R.V₁ R.p'
    did k q = is_done (right_run K H.T) R.r k _ R.D₁ _ R.E₁ _ R.V₁ R.p' ran q

    pub cut_stops_right : (q : Refusal) (C₂ : List Float) (F₂ W₂ : List ℕ) (p₂ : List Float) → R.r ≡ Err q → Left (cut_of K.ms K.at K.first K.s K.e K.tol) R.r K.C C₂ K.F F₂ K.W W₂ p₂
    cut_stops_right q C₂ F₂ W₂ p₂ n =
        rw (H.is, H.side.is, is_refused (right_run K H.T) R.r q _ R.D₁ _ R.E₁ _ R.V₁ R.p' ran n) (ap answer n)

    -- all is done
    pub cut_done : (k : ℕ) → R.r ≡ Ok k → Left (cut_of K.ms K.at K.first K.s K.e K.tol) (Ok (H.j + k)) K.C C₂ K.F F₂ K.W W₂ P₂
    cut_done k q =
        let right = did k q in
        let n = numbers in
        rw H.is (both_done K.at (left_run K H.T) (right_run K H.T) H.side.cs right.cs H.side.bs right.bs H.p R.p' H.j k K.C _ K.F _ K.W _ _ H.side.is right.is H.side.long right.long
        (written_behind H.side.cs right.cs K.C H.C₁ R.D₁ (record_numbers * H.j) (length H.C₁ - record_numbers * H.j) H.side.curves n.nine refl right.curves)
        (beside-behind (λ b. b.first) H.side.bs right.bs K.F H.F₁ R.E₁ H.j (length H.F₁ - H.j) H.side.firsts H.side.long refl right.firsts)
        (beside-behind (λ b. b.worst) H.side.bs right.bs K.W H.W₁ R.V₁ H.j (length H.W₁ - H.j) H.side.worsts H.side.long refl right.worsts)
        (params-join K.at (length P₁ - K.at) H.p R.p' K.P P₁ refl (omega (arith, n)) refl))
