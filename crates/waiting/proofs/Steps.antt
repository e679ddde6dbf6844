-- What the engine's small routines cite: parts of slices, and ends that wait. Assumes nothing.
use Prim.Native.Nat.{ℕ, zero, suc, ◌+◌, ◌-◌, ◌*◌, ◌/◌, ◌≤◌, ◌<◌}
use native.Mathlib.Numerals.{add-one}
use native.Mathlib.Nat.{div-mul-le_self, lt-div-mul-add}
use native.Mathlib.Omega.{arith}
use mathlib.Core.Path.{◌≡◌, refl, sym, ap, ◌∙◌, subst}
use mathlib.Core.List.{List, [], ◌∷◌, ◌++◌, append-nil}
use lib.ListN.{length, take, drop, set, length-drop, length-set, drop_of_length-le}
use lib.Seq.{take_all, drop-drop, get_or-set_same, get_or-set_other}
use lib.Ieee.{Float}
use Rattle.float.specs.Slices.{written}
use Rattle.std.specs.Prelude.{Result}
use Rattle.float.specs.Answer.{Answer, ok}
use Rattle.float.specs.Answer.{refused as no}
use Rattle.float.specs.Refusal.{answer}
use Rattle.float.specs.declared.refusal.Refusal.{Refusal}
use Rattle.plane.specs.declared.Point.{Point}
use Rattle.marks.specs.Marks.{count}
use Rattle.ring.specs.Ring.{again, whole, Even}
use Rattle.ring.specs.declared.Outline.{Outline}
use Rattle.ring.specs.declared.Outline.TheVariants.{Open, Closed}
use Rattle.ring.proofs.Whole.{again-small, whole_length, halves, part_given, part_as-closed}
use Rattle.part.specs.Part.{Part, fails, part_of}
use Rattle.part.specs.Answers.{Did, told}
use Rattle.part.specs.declared.Solved.{Solved}
use Rattle.part.specs.declared.Unfitted.{Unfitted}
use Rattle.cut.specs.Lent.{Ready}
use Rattle.blocks.proofs.Blocks.{laid-front}
use Rattle.parts.specs.declared.Heading.{Heading}
use Rattle.parts.specs.Headings.{outline_in, marks_in}
use Rattle.waiting.specs.Waiting.{part_at, headed, waits}
use Rattle.waiting.specs.Lent.{Laid, Meeting, Outlined, Within, Room, Blocks, final, more}
use Rattle.waiting.proofs.Ends.{ahead, reaches}

-- ---- put_curve

pub laid-behind : {A : Type 0} (ys C D : List A) (a b : ℕ) → b ≡ length C - a → D ≡ written ys (take b (drop a C)) → take a C ++ (D ++ drop b (drop a C)) ≡ take a C ++ written ys (drop a C)
laid-behind ys C D a b e d =
    let all : take b (drop a C) ≡ drop a C = take_all b (drop a C) (simp length-drop (omega arith)) in
    let none : drop b (drop a C) ≡ [] = drop_of_length-le (drop a C) {i = b} (simp length-drop (omega arith)) in
    rw (none, append-nil, d, all)

-- ---- try_marks

pub same_part : (ms ws : List Float) (s e : Point) (tol : Float) (r : Result Solved Unfitted) (p : List Float) → ms ≡ ws → Did (part_of ms s e tol) r p → Did (part_of ws s e tol) r p
same_part ms ws s e tol r p h d = subst (λ (l : List Float). Did (part_of l s e tol) r p) h d

module _ (ms : List Float) (a b : ℕ) (some : a < b) where
  -- all marks of the part were given
  pub given_part : 2 * b + 2 ≤ length ms → take (2 * b + 2 - 2 * a) (drop (2 * a) ms) ≡ part_at (whole Closed ms) a b
  given_part l =
      let e : 2 * b + 2 ≡ 2 * (b + 1) = omega arith in
      sym (part_given Closed ms (2 * a) (2 * b + 2) (omega arith) l) ∙ ap (λ (i : ℕ). take (i - 2 * a) (drop (2 * a) (whole Closed ms))) e

  -- the last of them is mark 0 again
  pub round_part : Even ms → b ≡ count ms → (round : List Float) (tail : ℕ) → tail ≤ a → round ≡ drop (2 * tail) (whole Closed ms)
      → take (length round - (2 * a - 2 * tail)) (drop (2 * a - 2 * tail) round) ≡ part_at (whole Closed ms) a b
  round_part even h round tail t e =
      let n = whole_length Closed ms even in
      let i : 2 * tail + (2 * a - 2 * tail) ≡ 2 * a = omega arith in
      let d : drop (2 * a - 2 * tail) round ≡ drop (2 * a) (whole Closed ms) = ap (drop (2 * a - 2 * tail)) e ∙ drop-drop (2 * a - 2 * tail) (2 * tail) (whole Closed ms) ∙ ap (λ (j : ℕ). drop j (whole Closed ms)) i in
      take_all (length round - (2 * a - 2 * tail)) (drop (2 * a - 2 * tail) round) (simp length-drop (omega arith))
      ∙ d
      ∙ sym (take_all (2 * (b + 1) - 2 * a) (drop (2 * a) (whole Closed ms)) (simp length-drop (omega arith)))

  pub round_long : Even ms → b ≡ count ms → (round : List Float) (tail : ℕ) → tail ≤ a → round ≡ drop (2 * tail) (whole Closed ms) → length round ≡ 2 * (b + 1) - 2 * tail
  round_long even h round tail t e = let n = whole_length Closed ms even in ap length e ∙ simp length-drop (omega arith)

-- what is known of a part that the marks given do not hold
pub record Behind (ms round : List Float) (tail a b : ℕ) : Type 0 where
  pub last : b ≡ count ms
  pub reach : tail ≤ a
  pub laid : round ≡ drop (2 * tail) (whole Closed ms)
  pub long : length round ≡ 2 * (b + 1) - 2 * tail

pub behind : (ms round : List Float) (tail a b : ℕ) → Even ms × ((a < b) × (b ≤ count ms)) → (b ≡ count ms → (tail ≤ a) × (round ≡ drop (2 * tail) (whole Closed ms))) → length ms < 2 * b + 2 → Behind ms round tail a b
behind ms round tail a b e l h =
    let last : b ≡ count ms = omega (arith, e) in
    let r = l last in
    record { last = last; reach = r.0; laid = r.1; long = round_long ms a b e.1.0 e.0 last round tail r.0 r.1 }

-- ---- try_between

module _ (h : Heading) (ms round : List Float) (tail n size : ℕ) (tol : Float) (O : Outlined h ms round tail n size tol) where
  pub given-even : Even ms × (again (outline_in h) + count ms ≡ n)
  given-even = halves (outline_in h) ms n O.even O.two

  module _ (a b p : ℕ) (W : Within n size a b p) where
    pub reached : b ≡ count ms → (tail ≤ a) × (round ≡ drop (2 * tail) (whole Closed ms))
    reached e = (omega (arith, W, O.reach, given-even.1, again-small (outline_in h)), go (outline_in h) O.laid given-even.1)
      where
        go : (o : Outline) → Laid o ms round tail → again o + count ms ≡ n → round ≡ drop (2 * tail) (whole Closed ms)
        go Open l m = absurd (omega (arith, W))
        go Closed l m = l

    pub part_read : part_at (whole Closed ms) a b ≡ part_at (marks_in h ms) a b
    part_read = let l = O.even in part_as-closed (outline_in h) ms (2 * a) (2 * (b + 1)) (omega (arith, W)) (omega (arith, W))

-- tangents that are answered one after the other
module _ (S E : Answer Point) (f : Point → Point → Part) (r : Result Solved Unfitted) (P : List Float) where
  pub no_start : {q : ℕ} → no q ≡ S → told r P ≡ fails q → Did (headed fails S E f) r P
  no_start e h = rw (← e) h

  module _ {s : Point} (e : ok s ≡ S) where
    pub no_end : {q : ℕ} → no q ≡ E → told r P ≡ fails q → Did (headed fails S E f) r P
    no_end i h = rw (← e, ← i) h

    pub both_ways : {t : Point} → ok t ≡ E → Did (f s t) r P → Did (headed fails S E f) r P
    both_ways i d = rw (← e, ← i) d

-- ---- ends that wait

pub waits-length : (d : ℕ) (O : List ℕ) → length (waits d O) ≡ d
unfolding waits
waits-length zero O = refl
waits-length (suc d) O = ap suc (waits-length d O)

waits-set : (d e : ℕ) (O : List ℕ) (x : ℕ) → d ≤ e → waits d (set O e x) ≡ waits d O
unfolding waits
waits-set zero e O x h = refl
waits-set (suc d) e O x h = rw (get_or-set_other O e d x 0 (λ i. omega arith), waits-set d e O x (omega arith))

-- one more waits, at the front
pub waits_push : (d : ℕ) (O : List ℕ) (x : ℕ) → d < length O → waits (d + 1) (set O d x) ≡ x ∷ waits d O
unfolding waits
waits_push d O x h = rw (add-one, get_or-set_same O d x 0 h, waits-set d d O x (omega arith))

-- ---- wait_blocks

-- at the loop's head the ends of the blocks from mark `from` on wait, but for the first of them, `to`
pub record Laying (last size : ℕ) (O₀ O : List ℕ) (to depth from : ℕ) : Type 0 where
  pub q : ℕ
  pub at : from ≡ q * size
  pub ends : Blocks size last q to (waits depth O)
  pub same : length O ≡ length O₀

module _ (last size : ℕ) (O₀ : List ℕ) (asks : (0 < last) × (0 < size)) where
  pub laid_first : Laying last size O₀ O₀ last 0 ((last - 1) / size * size)
  unfolding waits
  laid_first =
      let low = div-mul-le_self (last - 1) size in
      let high = lt-div-mul-add {a = last - 1} {b = size} asks.1 in
      record { q = (last - 1) / size; at = refl; ends = final ((last - 1) / size) (omega (arith, asks)) (omega (arith, asks)); same = refl }

  module _ {O : List ℕ} {to depth from : ℕ} (L : Laying last size O₀ O to depth from) where
    pub below : (depth + to ≤ last) × (from < to)
    below = let r = reaches asks.1 L.ends in let a = ahead asks.1 L.ends in let w = waits-length depth O in let e = L.at in (omega arith, omega arith)

    module _ (some : 0 < from) where
      -- a block before this one
      before : (q : ℕ) → from ≡ q * size → (p : ℕ) × (p + 1 ≡ q)
      before zero e = absurd (omega arith)
      before (suc p) e = (p, omega arith)

      pub falls : size ≤ from
      falls = let b = before L.q L.at in let e = b.1 in let m : (b.0 + 1) * size ≡ L.q * size = ap (λ (i : ℕ). i * size) e in let a = L.at in omega arith

      pub laid_next : depth < length O → Laying last size O₀ (set O depth to) from (depth + 1) (from - size)
      laid_next room =
          let b = before L.q L.at in
          let m : (b.0 + 1) * size ≡ L.q * size = ap (λ (i : ℕ). i * size) b.1 in
          let a = L.at in
          let e : (b.0 + 1) * size ≡ from = omega arith in
          let ends : Blocks size last (b.0 + 1) to (waits depth O) = subst (λ (i : ℕ). Blocks size last i to (waits depth O)) (sym b.1) L.ends in
          let all : Blocks size last b.0 ((b.0 + 1) * size) (to ∷ waits depth O) = more b.0 to (waits depth O) ends in
          record {
            q = b.0;
            at = omega arith;
            ends = rw (waits_push depth O to room) (subst (λ (i : ℕ). Blocks size last b.0 i (to ∷ waits depth O)) e all);
            same = simp length-set L.same;
          }

    pub laid_all : from ≤ 0 → Blocks size last 0 to (waits depth O)
    laid_all none = go L.q L.at L.ends
      where
        go : (q : ℕ) → from ≡ q * size → Blocks size last q to (waits depth O) → Blocks size last 0 to (waits depth O)
        go zero e r = r
        go (suc p) e r = let a = asks.1 in absurd (omega arith)

-- ---- fit_round and fit_waiting

pub ready_outlined : (h : Heading) (ms round : List Float) (tail size : ℕ) (tol : Float) (C : List Float) (F W : List ℕ) (P : List Float)
    → Ready (marks_in h ms) 0 tol C F W P → 0 < size → Meeting h (length P) size → Laid (outline_in h) ms round tail → tail ≤ length P - (size + 1) → Outlined h ms round tail (length P) size tol
ready_outlined h ms round tail size tol C F W P ready some meets laid reach =
    record { usable = ready.usable; even = ready.even; two = ready.two; near = let n = ready.near in omega arith; some = some; meeting = meets; laid = laid; reach = reach }

pub ready_room : {ms : List Float} {tol : Float} {C : List Float} {F W : List ℕ} {P : List Float} {o : ℕ} → Ready ms 0 tol C F W P → length P ≤ o → Room (length P) (length C) (length F) (length W) o
ready_room ready h = (ready.curves, (ready.firsts, (ready.worsts, h)))

pub laid-open : (h : Heading) (ms round : List Float) (tail : ℕ) → outline_in h ≡ Open → Laid (outline_in h) ms round tail
laid-open h ms round tail e = rw e tt

module _ (h : Heading) (ms : List Float) (n : ℕ) (closed : outline_in h ≡ Closed) (even : length (marks_in h ms) ≡ 2 * n) (two : 2 ≤ n) where
  -- the marks given, and how many are behind mark `tail` with mark 0 again
  pub closed-marks : Even ms × (1 + count ms ≡ n)
  closed-marks = let m = halves (outline_in h) ms n even two in (m.0, sym (ap (λ (o : Outline). again o + count ms) closed) ∙ m.1)

  pub laid-closed : (tail : ℕ) (R room : List Float) → tail ≤ n → R ≡ written (drop (2 * tail) (whole Closed ms)) room → Laid (outline_in h) ms (take (2 * (n - tail)) R) tail
  laid-closed tail R room t e =
      let m = closed-marks in
      let l = whole_length Closed ms m.0 in
      rw closed (laid-front (drop (2 * tail) (whole Closed ms)) room (2 * (n - tail)) e (simp length-drop (omega (arith, m.1))))
