-- The loop over the open parts: at its head `made` curves stand at the front, up to mark `from`, and the whole is those, the part from there to mark `to`, and what waits. Assumes nothing.
use Prim.Native.Nat.{ℕ, suc, ◌+◌, ◌-◌, ◌*◌, ◌≤◌, ◌<◌}
use native.Mathlib.Numerals.{add-one}
use native.Mathlib.Omega.{arith}
use mathlib.Core.Path.{◌≡◌, refl, sym, ap, ◌∙◌, subst}
use mathlib.Core.List.{List, [], ◌∷◌, ◌++◌, map, append-nil, append_assoc, map-append}
use lib.ListN.{length, take, drop, set, get_or, length-append, length-take, length-drop, length-set, length-map, drop_of_length-le}
use lib.Seq.{take_at, drop_at, drop-drop, set_split}
use lib.Ieee.{Float}
use Rattle.std.specs.Prelude.{Result, Ok, Err}
use Rattle.float.specs.Answer.{Answer}
use Rattle.float.specs.Refusal.{number}
use Rattle.float.specs.declared.refusal.Refusal.{Refusal}
use Rattle.float.specs.Slices.{written}
use Rattle.float.proofs.Slices.{inner_length}
use Rattle.plane.specs.declared.Point.{Point}
use Rattle.limits.specs.Limits.{most_numbered}
use Rattle.form.specs.Form.{record_numbers}
use Rattle.part.specs.Part.{Part, fits, cuts}
use Rattle.part.specs.Answers.{Did}
use Rattle.part.specs.declared.Solved.{Solved}
use Rattle.part.specs.declared.Unfitted.{Unfitted}
use Rattle.part.specs.declared.Unfitted.TheVariants.{Cut}
use Rattle.part.specs.declared.Unfitted.TheVariants as unfitted
use Rattle.cut.specs.Run.{Run, done, Beside, beside, flat, firsts_of, worsts_of}
use Rattle.cut.specs.Lent.{Left}
use Rattle.cut.proofs.Cut.{from_good, from_cut, from_refused}
use Rattle.blocks.proofs.Blocks.{prepend, join_prepend, prepend_twice, prepend_none}
use Rattle.blocks.proofs.Sofar.{part_len, take_behind}
use Rattle.parts.specs.declared.Heading.{Heading}
use Rattle.parts.specs.Headings.{marks_in, start_in, end_in}
use Rattle.waiting.specs.Waiting.{part_in, open_of, waits, run_in}
use Rattle.waiting.specs.Lent.{Outlined, Within, Room, Blocks}
use Rattle.waiting.proofs.Open.{open_cut, open-fails, open_last, open_next, at_among, at_inside}
use Rattle.waiting.proofs.Ends.{Tiled, tile_of, tiled, tiled_behind, tiled_end, tiled_long, tiled_cut, run-open}
use Rattle.waiting.proofs.Steps.{waits-length, waits_push}

-- ---- one value more, behind those that stand

behind : {A : Type 0} (xs ys X X₁ : List A) (a : ℕ) → X₁ ≡ written xs X → length xs ≡ a → take a X₁ ++ written ys (drop a X₁) ≡ written (xs ++ ys) X
behind xs ys X X₁ a e l =
    let front : take a X₁ ≡ xs = rw e (take_at xs _ a l) in
    let back : drop a X₁ ≡ drop (length xs) X = rw e (drop_at xs _ a l) in
    rw (front, back, drop-drop, length-append, append_assoc)

beside_one : (f : Beside → ℕ) (bs : List Beside) (b : Beside) (X X₁ : List ℕ) (made v : ℕ) → X₁ ≡ written (map f bs) X → length bs ≡ made → made < length X₁ → v ≡ f b
    → set X₁ made v ≡ written (map f (bs ++ (b ∷ []))) X
beside_one f bs b X X₁ made v e l h i =
    set_split X₁ made v h
    ∙ ap (λ (w : ℕ). take made X₁ ++ w ∷ drop (suc made) X₁) i
    ∙ ap (λ (t : List ℕ). take made X₁ ++ f b ∷ t) (sym (drop-drop 1 made X₁ ∙ ap (λ (j : ℕ). drop j X₁) (add-one made)))
    ∙ behind (map f bs) (f b ∷ []) X X₁ made e (length-map bs f ∙ l)
    ∙ ap (λ (t : List ℕ). written t X) (sym (map-append f bs (b ∷ [])))

-- ---- a call of work_off, and what it asks

pub record Call : Type 0 where
  pub h : Heading
  pub ms : List Float
  pub round : List Float
  pub tail : ℕ
  pub size : ℕ
  pub tol : Float
  pub C : List Float
  pub F : List ℕ
  pub W : List ℕ
  pub P : List Float
  pub O : List ℕ

abbrev pub call : Heading → List Float → List Float → ℕ → ℕ → Float → List Float → List ℕ → List ℕ → List Float → List ℕ → Call
call h ms round tail size tol C F W P O = record { h = h; ms = ms; round = round; tail = tail; size = size; tol = tol; C = C; F = F; W = W; P = P; O = O }

pub record Asked (K : Call) : Type 0 where
  pub outlined : Outlined K.h K.ms K.round K.tail (length K.P) K.size K.tol
  pub room : Room (length K.P) (length K.C) (length K.F) (length K.W) (length K.O)

pub asked : {h : Heading} {ms round : List Float} {tail size : ℕ} {tol : Float} {C : List Float} {F W : List ℕ} {P : List Float} {O : List ℕ} (O₀ : List ℕ) → Outlined h ms round tail (length P) size tol → Room (length P) (length C) (length F) (length W) (length O₀) → length O ≡ length O₀
    → Asked (call h ms round tail size tol C F W P O)
asked O₀ outlined r l = record { outlined = outlined; room = (r.0, (r.1.0, (r.1.1.0, omega (arith, r, l)))) }

-- the marks, and the tangents by the mark
abbrev pub marks : Call → List Float
marks K = marks_in K.h K.ms

abbrev pub starts : Call → ℕ → Answer Point
starts K = start_in K.h (marks K) (length K.P) K.size

abbrev pub ends : Call → ℕ → Answer Point
ends K = end_in K.h (marks K) (length K.P) K.size

-- the run, the open parts from mark a on, and what the first of them comes to
abbrev pub whole : Call → Run
whole K = run_in K.h (marks K) K.size K.tol

abbrev pub rest : Call → ℕ → ℕ → List ℕ → Run
rest K a b cs = open_of (starts K) (ends K) (marks K) K.tol a b cs

abbrev pub part : Call → ℕ → ℕ → Part
part K a b = part_in (starts K) (ends K) (marks K) K.tol a b

pub record Sofar (K : Call) (from to depth made : ℕ) (C₁ : List Float) (F₁ W₁ : List ℕ) (P₁ : List Float) (O₁ : List ℕ) : Type 0 where
  pub cs : List Float
  pub bs : List Beside
  pub ps : List Float
  pub whole : whole K ≡ prepend cs bs ps (rest K from to (waits depth O₁))
  pub tiled : Tiled K.h (marks K) (length K.P) K.size from to (waits depth O₁)
  pub nine : length cs ≡ record_numbers * made
  pub long : length bs ≡ made
  pub each : length ps ≡ from
  pub curves : C₁ ≡ written cs K.C
  pub firsts : F₁ ≡ written (firsts_of bs) K.F
  pub worsts : W₁ ≡ written (worsts_of bs) K.W
  pub front : take from P₁ ≡ ps
  pub few : made ≤ from
  pub lc : length C₁ ≡ length K.C
  pub lf : length F₁ ≡ length K.F
  pub lw : length W₁ ≡ length K.W
  pub lp : length P₁ ≡ length K.P
  pub lo : length O₁ ≡ length K.O

-- the blocks wait
pub so_first : (K : Call) → Asked K → (to depth : ℕ) (O₁ : List ℕ) → Blocks K.size (length K.P - 1) 0 to (waits depth O₁) → length O₁ ≡ length K.O → Sofar K 0 to depth 0 K.C K.F K.W K.P O₁
so_first K A to depth O₁ r l =
    let o = A.outlined in
    let top : length K.P - 1 + 1 ≡ length K.P = let t = o.two in omega arith in
    let none : 0 * K.size ≡ 0 = omega arith in
    record {
      cs = [];
      bs = [];
      ps = [];
      whole = run-open K.h (marks K) K.tol (length K.P) K.size (length K.P - 1) o.meeting o.some top o.even r ∙ prepend_none (rest K 0 to (waits depth O₁));
      tiled = subst (λ (i : ℕ). Tiled K.h (marks K) (length K.P) K.size i to (waits depth O₁)) none (tiled K.h (marks K) (length K.P) K.size (length K.P - 1) o.some top r);
      nine = refl;
      long = refl;
      each = refl;
      curves = refl;
      firsts = refl;
      worsts = refl;
      front = refl;
      few = omega arith;
      lc = refl;
      lf = refl;
      lw = refl;
      lp = refl;
      lo = l;
    }

-- ---- the loop's head

pub record Head : Type 0 where
  pub K : Call
  pub A : Asked K
  pub from : ℕ
  pub to : ℕ
  pub depth : ℕ
  pub made : ℕ
  pub C₁ : List Float
  pub F₁ : List ℕ
  pub W₁ : List ℕ
  pub P₁ : List Float
  pub O₁ : List ℕ
  pub so : Sofar K from to depth made C₁ F₁ W₁ P₁ O₁

-- the same by what a call asks and what the loop keeps; the ends of the blocks were laid into O
abbrev pub head : {h : Heading} {ms round : List Float} {tail size : ℕ} {tol : Float} {C : List Float} {F W : List ℕ} {P : List Float} {O : List ℕ} (O₀ : List ℕ) → Outlined h ms round tail (length P) size tol → Room (length P) (length C) (length F) (length W) (length O₀) → length O ≡ length O₀
    → {from to depth made : ℕ} {C₁ : List Float} {F₁ W₁ : List ℕ} {P₁ : List Float} {O₁ : List ℕ} → Sofar (call h ms round tail size tol C F W P O) from to depth made C₁ F₁ W₁ P₁ O₁ → Head
head {h} {ms} {round} {tail} {size} {tol} {C} {F} {W} {P} {O} O₀ outlined room l {from} {to} {depth} {made} {C₁} {F₁} {W₁} {P₁} {O₁} so =
    record { K = call h ms round tail size tol C F W P O; A = asked O₀ outlined room l; from = from; to = to; depth = depth; made = made; C₁ = C₁; F₁ = F₁; W₁ = W₁; P₁ = P₁; O₁ = O₁; so = so }

-- the numbers that the needs are worked out from
pub record Numbers (H : Head) : Type 0 where
  pub two : 2 ≤ length H.K.P
  pub near : length H.K.P ≤ most_numbered
  pub room : Room (length H.K.P) (length H.K.C) (length H.K.F) (length H.K.W) (length H.K.O)
  pub some : H.from < H.to
  pub bound : H.depth + H.to < length H.K.P
  pub wide : H.to ≤ H.from + H.K.size
  pub few : H.made ≤ H.from
  pub lc : length H.C₁ ≡ length H.K.C
  pub lf : length H.F₁ ≡ length H.K.F
  pub lw : length H.W₁ ≡ length H.K.W
  pub lp : length H.P₁ ≡ length H.K.P
  pub lo : length H.O₁ ≡ length H.K.O

module _ (H : Head) where
  abbrev K : Call
  K = H.K

  abbrev o : Outlined K.h K.ms K.round K.tail (length K.P) K.size K.tol
  o = H.A.outlined

  abbrev from : ℕ
  from = H.from

  abbrev to : ℕ
  to = H.to

  abbrev so : Sofar K from to H.depth H.made H.C₁ H.F₁ H.W₁ H.P₁ H.O₁
  so = H.so

  pub numbers : Numbers H
  numbers =
      let t = tile_of so.tiled in
      let l = tiled_long so.tiled in
      let w = waits-length H.depth H.O₁ in
      record { two = o.two; near = o.near; room = H.A.room; some = t.some; bound = omega arith; wide = t.wide; few = so.few; lc = so.lc; lf = so.lf; lw = so.lw; lp = so.lp; lo = so.lo }

  abbrev bounded : to < length K.P
  bounded = let z = numbers in omega (arith, z.bound)

  -- the part from mark `from` to mark `to` is within a block, and its parameters are lent
  pub within : Within (length K.P) K.size from to (length (take (to + 1 - from) (drop from H.P₁)))
  within =
      let z = numbers in
      let l = part_len from (to + 1 - from) H.P₁ (omega (arith, z)) in
      (z.some, (omega (arith, z), (z.wide, omega (arith, z))))

  -- what it came to, and its parameters
  pub record Ran : Type 0 where
    pub r : Result Solved Unfitted
    pub p : List Float
    pub did : Did (part K from to) r p
    pub lp : length p ≡ length (take (to + 1 - from) (drop from H.P₁))

  -- the same by its contract
  abbrev pub ran : (r : Result Solved Unfitted) (p : List Float) → Did (part K from to) r p → length p ≡ length (take (to + 1 - from) (drop from H.P₁)) → Ran
  ran r p did lp = record { r = r; p = p; did = did; lp = lp }

  module _ (R : Ran) where
    abbrev P₂ : List Float
    P₂ = take from H.P₁ ++ (R.p ++ drop (to + 1 - from) (drop from H.P₁))

    pub as_long : length P₂ ≡ length K.P
    as_long = let z = numbers in inner_length from (to + 1 - from) H.P₁ R.p (omega (arith, z)) R.lp ∙ so.lp

    long_front : length (take from H.P₁) ≡ from
    long_front = let z = numbers in simp length-take (omega (arith, z))

    -- ---- refused
    pub so_refused : (q : Refusal) → R.r ≡ Err (unfitted.Refused q) → (C₂ : List Float) (F₂ W₂ : List ℕ) (P₃ : List Float) → Left (whole K) (Err q) K.C C₂ K.F F₂ K.W W₂ P₃
    so_refused q e C₂ F₂ W₂ P₃ =
        let z = numbers in
        rw (so.whole, open-fails (starts K) (ends K) (marks K) K.tol (length K.P) o.even o.usable from to (number q) (waits H.depth H.O₁) z.some bounded (from_refused (part K from to) R.r R.p q R.did e)) refl

    -- ---- cut
    module _ (k : ℕ) (e : R.r ≡ Err (Cut k)) where
      is_cut : part K from to ≡ cuts k
      is_cut = from_cut (part K from to) R.r R.p k R.did e

      pub cut_inside : (0 < k) × (from + k < to)
      cut_inside = at_inside (starts K) (ends K) (marks K) K.tol (length K.P) o.even o.usable from to numbers.some bounded k is_cut

      pub so_cut : Sofar K from (from + k) (H.depth + 1) H.made H.C₁ H.F₁ H.W₁ P₂ (set H.O₁ H.depth to)
      so_cut =
          let z = numbers in
          let push : waits (H.depth + 1) (set H.O₁ H.depth to) ≡ to ∷ waits H.depth H.O₁ = waits_push H.depth H.O₁ to (omega (arith, z)) in
          let l = long_front in
          record {
            cs = so.cs;
            bs = so.bs;
            ps = so.ps;
            whole = so.whole ∙ ap (prepend so.cs so.bs so.ps) (open_cut (starts K) (ends K) (marks K) K.tol (length K.P) o.even o.usable from to k (waits H.depth H.O₁) z.some bounded (tile_of so.tiled).free is_cut ∙ ap (rest K from (from + k)) (sym push));
            tiled = rw push (tiled_cut k cut_inside.0 cut_inside.1 so.tiled);
            nine = so.nine;
            long = so.long;
            each = so.each;
            curves = so.curves;
            firsts = so.firsts;
            worsts = so.worsts;
            front = take_at (take from H.P₁) _ from l ∙ so.front;
            few = so.few;
            lc = so.lc;
            lf = so.lf;
            lw = so.lw;
            lp = as_long;
            lo = simp length-set so.lo;
          }

    -- ---- a curve
    module _ (s : Solved) (e : R.r ≡ Ok s) where
      is_good : part K from to ≡ fits s.curve s.far R.p
      is_good = from_good (part K from to) R.r R.p s R.did e

      pub good_among : (from + s.far.at ≤ to) × (length R.p ≡ to + 1 - from)
      good_among = at_among (starts K) (ends K) (marks K) K.tol (length K.P) o.even o.usable from to numbers.some bounded s.curve s.far R.p is_good

      module _ (C₂ : List Float) (F₂ W₂ : List ℕ)
          (put : (C₂ ≡ take (record_numbers * H.made) H.C₁ ++ written (flat s.curve s.far.err) (drop (record_numbers * H.made) H.C₁)) × ((F₂ ≡ set H.F₁ H.made from) × (W₂ ≡ set H.W₁ H.made (from + s.far.at)))) where
        abbrev b : Beside
        b = beside from (from + s.far.at)

        curves_now : C₂ ≡ written (so.cs ++ flat s.curve s.far.err) K.C
        curves_now = put.0 ∙ behind so.cs (flat s.curve s.far.err) K.C H.C₁ (record_numbers * H.made) so.curves so.nine

        firsts_now : F₂ ≡ written (firsts_of (so.bs ++ (b ∷ []))) K.F
        firsts_now = let z = numbers in put.1.0 ∙ beside_one (λ b. b.first) so.bs b K.F H.F₁ H.made from so.firsts so.long (omega (arith, z)) refl

        worsts_now : W₂ ≡ written (worsts_of (so.bs ++ (b ∷ []))) K.W
        worsts_now = let z = numbers in put.1.1 ∙ beside_one (λ b. b.worst) so.bs b K.W H.W₁ H.made (from + s.far.at) so.worsts so.long (omega (arith, z)) refl

        -- the last part
        pub so_done : H.depth ≡ 0 → Left (whole K) (Ok (H.made + 1)) K.C C₂ K.F F₂ K.W W₂ P₂
        unfolding waits
        so_done d =
            let z = numbers in
            let none : waits H.depth H.O₁ ≡ [] = ap (λ (i : ℕ). waits i H.O₁) d in
            let t : Tiled K.h (marks K) (length K.P) K.size from to [] = subst (Tiled K.h (marks K) (length K.P) K.size from to) none so.tiled in
            let top = tiled_end t in
            let over : drop (to + 1 - from) (drop from H.P₁) ≡ [] = drop_of_length-le (drop from H.P₁) {i = to + 1 - from} (simp length-drop (omega (arith, z))) in
            let is : whole K ≡ done (so.cs ++ flat s.curve s.far.err) (so.bs ++ (b ∷ [])) (so.ps ++ R.p)
            = so.whole ∙ ap (prepend so.cs so.bs so.ps) (ap (rest K from to) none ∙ open_last (starts K) (ends K) (marks K) K.tol (length K.P) o.even o.usable from to z.some bounded s.curve s.far R.p is_good) in
            let many : H.made + 1 ≡ length (so.bs ++ (b ∷ [])) = let l = so.long in simp length-append (omega arith) in
            let params : P₂ ≡ so.ps ++ R.p = rw (over, append-nil, so.front) in
            rw is (ap Ok many, curves_now, firsts_now, worsts_now, params)

        -- one that others wait behind
        pub so_next : (d : ℕ) → H.depth ≡ d + 1 → (lc : length C₂ ≡ length H.C₁) (lf : length F₂ ≡ length H.F₁) (lw : length W₂ ≡ length H.W₁)
            → Sofar K to (get_or H.O₁ d 0) d (H.made + 1) C₂ F₂ W₂ P₂ H.O₁
        unfolding waits
        so_next d i lc lf lw =
            let z = numbers in
            let top : waits H.depth H.O₁ ≡ get_or H.O₁ d 0 ∷ waits d H.O₁ = ap (λ (j : ℕ). waits j H.O₁) (i ∙ add-one d) in
            let t : Tiled K.h (marks K) (length K.P) K.size from to (get_or H.O₁ d 0 ∷ waits d H.O₁) = subst (Tiled K.h (marks K) (length K.P) K.size from to) top so.tiled in
            let more = rest K to (get_or H.O₁ d 0) (waits d H.O₁) in
            let g = good_among in
            let each = so.each in
            let nine = so.nine in
            let long = so.long in
            let w : from + (to - from) ≡ to = omega (arith, z) in
            record {
              cs = so.cs ++ flat s.curve s.far.err;
              bs = so.bs ++ (b ∷ []);
              ps = so.ps ++ take (to - from) R.p;
              whole = so.whole ∙ ap (prepend so.cs so.bs so.ps) (ap (rest K from to) top ∙ open_next (starts K) (ends K) (marks K) K.tol (length K.P) o.even o.usable from to z.some bounded s.curve s.far R.p is_good (get_or H.O₁ d 0) (waits d H.O₁) ∙ join_prepend (to - from) (flat s.curve s.far.err) (b ∷ []) R.p more) ∙ prepend_twice so.cs (flat s.curve s.far.err) so.bs (b ∷ []) so.ps (take (to - from) R.p) more;
              tiled = tiled_behind t;
              nine = simp length-append (omega arith);
              long = simp length-append (omega arith);
              each = simp (length-append, length-take) (omega (arith, z, g.1));
              curves = curves_now;
              firsts = firsts_now;
              worsts = worsts_now;
              front = ap (λ (j : ℕ). take j P₂) (sym w) ∙ take_behind from (to - from) (take from H.P₁) so.ps R.p _ so.front so.each (omega (arith, z, g.1));
              few = omega (arith, z);
              lc = lc ∙ so.lc;
              lf = lf ∙ so.lf;
              lw = lw ∙ so.lw;
              lp = as_long;
              lo = so.lo;
            }
