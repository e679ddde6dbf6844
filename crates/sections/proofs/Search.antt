-- The chain, of the port's own search: from the finite check `Creators` it follows that a 2,049th section is never taken. Assumes nothing else.
use mathlib.Core.Path.{◌≡◌, refl, sym, ap, ◌∙◌, subst}
use mathlib.Core.Bool.{Bool, true, false, not, ◌&&◌, cond}
use mathlib.Core.List.{List, [], ◌∷◌}
use Prim.Native.Nat.{ℕ, zero, suc, ◌+◌, ◌-◌, ◌*◌, ◌≤◌, ◌<◌, zero-le}
use native.Mathlib.Nat.{le_refl, zero-mul, mul-pos, zero-lt-suc}
use native.Mathlib.Omega.{arith}
use borrow.Author.Tests.{lt-ltb, eqb-false}
use lib.Dec.{T, ltb, eqb}
use lib.Ieee.{Float, nan, inf, fin, binary64, fits, up, down, lt, le, eq, sub, add, mul, of_bits}
use lib.Ieee.Fits.{add-fits, up_pos}
use lib.Ieee.Scale.{finite as finite?}
use lib.Ieee.Bits.{is_true}
use Rattle.float.specs.Number.{finite, f0, f1}
use Rattle.float.specs.Answer.{Answer, ok, refused, unless, outcome}
use Rattle.float.specs.Answer.{◌>>=◌ as chain}
use Rattle.float.proofs.Truth.{never, and_left, and_right, not_so}
use Rattle.float.proofs.Strict.{Fin}
use Rattle.float.proofs.Ranks.{says, said}
use Rattle.plane.specs.Plane.{plus, times}
use Rattle.plane.specs.declared.Point.{Point}
use Rattle.plane.specs.declared.Curve.{Curve}
use Rattle.cubic.specs.Basis.{casteljau2}
use Rattle.quintic.specs.Points.{subdivide6_of}
use Rattle.quintic.specs.Heights.{sums_of, weighted_by, section_of, distance_form}
use Rattle.plane.specs.Range.{point_finite}
use Rattle.quintic.specs.Tests.{heights_finite, halves_finite}
use Rattle.quintic.proofs.Fine.{subdivide6_same}
use Rattle.quintic.specs.declared.numbers.Six.{Six}
use Rattle.quintic.specs.declared.points.Section.{Section}
use Rattle.quintic.specs.declared.points.Halves.{Halves}
use Rattle.flat.specs.Flat.{crosses, crossings, flat_enough}
use Rattle.intercept.specs.Intercept.{root_of}
use Rattle.roots.specs.Find.{half, root_seen, halve, look_of, wait, next, find, find_roots}
use Rattle.roots.specs.declared.find.Waiting.{Waiting}
use Rattle.roots.specs.declared.find.Look.{Look}
use Rattle.roots.specs.declared.find.Look.TheVariants.{Nothing, Root, Halved}
use Rattle.roots.proofs.Stack.{halved-low}
use Rattle.sections.specs.Mid.{mid, upright}
use Rattle.sections.specs.Halving.{All, left, right, fine, ch, vary, below, live, Creators}
use Rattle.sections.specs.Never.{Never2049}
use Rattle.sections.proofs.Halve.{Rows, rows, fit_left_is, fit_right}
use Rattle.sections.proofs.Total.{taken, no_2049}
use Rattle.sections.proofs.Test.{test_is}

-- ---- the heights of a section, and those of its halves
abbrev pub six : Section → Six
six s = record { y1 = s.w1.y; y2 = s.w2.y; y3 = s.w3.y; y4 = s.w4.y; y5 = s.w5.y; y6 = s.w6.y }

rest-half : sub binary64 f1 half ≡ half
unfolding of_bits sub add
rest-half = refl

half-mid : (x y : Float) → add binary64 (mul binary64 x half) (mul binary64 y half) ≡ mid binary64 x y
unfolding of_bits
half-mid x y = refl

middle_is : (p q : Point) → (casteljau2 half p q).val.y ≡ mid binary64 p.y q.y
unfolding casteljau2 plus times
middle_is p q = rw rest-half (half-mid p.y q.y)

left_is : (s : Section) → six (subdivide6_of half s).val.left ≡ left binary64 (six s)
unfolding subdivide6_of
left_is s = simp middle_is

right_is : (s : Section) → six (subdivide6_of half s).val.right ≡ right binary64 (six s)
unfolding subdivide6_of
right_is s = simp middle_is

-- ---- a halving that was fine had finite heights
is_finite : (x : Float) → Fin x → T (finite? x)
unfolding finite
is_finite nan h = never h
is_finite (inf s) h = never h
is_finite (fin s m e) h = tt

-- heights that are finite and held by the format
pub record Sound (p : Six) : Type 0 where
  pub held : All (fits binary64) p
  pub all : All finite? p

module _ (s : Section) (w : Sound (six s)) (all : (subdivide6_of half s).fine ≡ true) where
  pub halving_fine : T (fine binary64 (six s))
  unfolding halves_finite point_finite
  halving_fine =
      let m = (subdivide6_of half s).val.left.w6 in
      let k : finite m.x && finite m.y ≡ true = sym (subdivide6_same half s) ∙ all in
      subst (λ (q : Six). T (finite? q.y6)) (left_is s) (is_finite m.y (and_right (finite m.x) (finite m.y) k))

  abbrev midpoints : Rows binary64 (six s)
  midpoints = rows binary64 (six s) halving_fine

  pub left_sound : Sound (six (subdivide6_of half s).val.left)
  left_sound = subst Sound (sym (left_is s)) (record {
    held = fit_left_is binary64 (six s) w.held;
    all = record { h1 = w.all.h1; h2 = midpoints.q1-fine; h3 = midpoints.r1-fine; h4 = midpoints.s1-fine; h5 = midpoints.t1-fine; h6 = midpoints.u-fine };
  })

  pub right_sound : Sound (six (subdivide6_of half s).val.right)
  right_sound = subst Sound (sym (right_is s)) (record {
    held = fit_right binary64 (six s) w.held;
    all = record { h1 = midpoints.u-fine; h2 = midpoints.t2-fine; h3 = midpoints.s3-fine; h4 = midpoints.r4-fine; h5 = midpoints.q5-fine; h6 = w.all.h6 };
  })

-- ---- a section with a crossing is live
zero-under : (y : Float) → T (finite? y) → le f0 y ≡ upright y
unfolding of_bits le lt eq
zero-under nan h = absurd h
zero-under (inf s) h = absurd h
zero-under (fin false m e) h = said false (0 * 1 * down e) false (m * up e * 1) (subst (λ (n : ℕ). n ≤ m * up e * 1) (sym (zero-mul (down e))) zero-le)
zero-under (fin true zero e) h = said false (0 * 1 * down e) true (0 * up e * 1) (zero-mul (down e), ap (λ (n : ℕ). n * 1) (zero-mul (up e)))
zero-under (fin true (suc m) e) h = not_so _ (λ k. none (suc m * up e * 1) (mul-pos (mul-pos (zero-lt-suc m) (up_pos e)) (zero-lt-suc 0)) (says false (0 * 1 * down e) true (suc m * up e * 1) k).1)
  where
    none : (n : ℕ) → 0 < n → n ≡ 0 → ⊥
    none n h e = omega arith

crosses_is : (x y : Float) → T (finite? x) → T (finite? y) → crosses x y ≡ ch (below x) (below y)
unfolding crosses of_bits
crosses_is x y hx hy =
    simp (test_is, zero-under x hx, zero-under y hy) (go (upright x) (upright y))
  where
    go : (a b : Bool) → cond (not a && b) 1 (cond (a && not b) 1 0) ≡ ch (not a) (not b)
    go true true = refl
    go true false = refl
    go false true = refl
    go false false = refl

live_is : (s : Section) → Sound (six s) → eqb (crossings s) 0 ≡ false → live (six s) ≡ true
unfolding crossings
live_is s w h = some (vary below (six s)) (simp (crosses_is s.w1.y s.w2.y w.all.h1 w.all.h2, crosses_is s.w2.y s.w3.y w.all.h2 w.all.h3, crosses_is s.w3.y s.w4.y w.all.h3 w.all.h4, crosses_is s.w4.y s.w5.y w.all.h4 w.all.h5, crosses_is s.w5.y s.w6.y w.all.h5 w.all.h6) at h)
  where
    some : (n : ℕ) → eqb n 0 ≡ false → ltb 0 n ≡ true
    some n h = lt-ltb 0 n (above n (eqb-false n 0 h))
      where
        above : (n : ℕ) → (n ≡ 0 → ⊥) → 0 < n
        above zero h = absurd (h refl)
        above (suc n) h = zero-lt-suc n

-- ---- what a look that halved tells
pub record Split (s : Section) (h : Halves) : Type 0 where
  pub crossed : eqb (crossings s) 0 ≡ false
  pub is : h ≡ (subdivide6_of half s).val
  pub all : (subdivide6_of half s).fine ≡ true

split : (s : Section) (depth : ℕ) (h : Halves) → ok (Halved h) ≡ look_of s depth → Split s h
unfolding look_of root_seen halve outcome
split s depth h k = go (eqb (crossings s) 0) (eqb (crossings s) 1) (outcome (flat_enough s)) (outcome (root_of s)) (ltb depth 64) (subdivide6_of half s).fine refl refl k
  where
    clash : {A : Type 0} → ◌≡◌ {A = ℕ} 0 1 → A
    clash e = absurd (omega arith)

    -- the halves, where nothing else was seen
    halves : (b f : Bool) → eqb (crossings s) 0 ≡ false → (subdivide6_of half s).fine ≡ f → ok (Halved h) ≡ unless 8 b (chain (unless 6 f (ok (subdivide6_of half s).val)) (λ h. ok (Halved h))) → Split s h
    halves false f e q k = clash cc
    halves true false e q k = clash cc
    halves true true e q k = record { crossed = e; is = cc; all = q }

    go : (none one : Bool) (flat : Answer Bool) (found : Answer Float) (low f : Bool) → eqb (crossings s) 0 ≡ none → (subdivide6_of half s).fine ≡ f
        → ok (Halved h) ≡ cond none (ok Nothing) (chain (cond one flat (ok false)) (λ flat. cond flat (chain found (λ t. ok (Root t))) (unless 8 low (chain (unless 6 f (ok (subdivide6_of half s).val)) (λ h. ok (Halved h))))))
        → Split s h
    go true one flat found low f e q k = clash cc
    go false false flat found low f e q k = halves low f e q k
    go false true (refused n) found low f e q k = clash cc
    go false true (ok true) (refused n) low f e q k = clash cc
    go false true (ok true) (ok t) low f e q k = clash cc
    go false true (ok false) found low f e q k = halves low f e q k

-- ---- the search: with room for all the sections that the tree of halvings has, more room changes nothing
-- a section, with all that the tree has below it
abbrev weight : Waiting → ℕ
weight w = taken binary64 (64 - w.depth) (six w.section)

abbrev pub total : List Waiting → ℕ
total [] = 0
total (w ∷ ws) = weight w + total ws

abbrev pub Sounds : List Waiting → Type 0
Sounds [] = T true
Sounds (w ∷ ws) = Sound (six w.section) × Sounds ws

taken_some : (n : ℕ) (p : Six) → 1 ≤ taken binary64 n p
unfolding taken
taken_some zero p = le_refl 1
taken_some (suc n) p = one _
  where
    one : (k : ℕ) → 1 ≤ 1 + k
    one k = omega arith

find_none : (full n : ℕ) → find full n [] ≡ ok []
unfolding find
find_none full zero = refl
find_none full (suc n) = refl

taken-halves : (n : ℕ) (s : Section) → Sound (six s) → (h : Halves) → Split s h → taken binary64 (suc n) (six s) ≡ 1 + (taken binary64 n (six h.left) + taken binary64 n (six h.right))
unfolding taken
taken-halves n s w h e = simp (live_is s w e.crossed, is_true (fine binary64 (six s)) (halving_fine s w e.all), e.is, left_is s, right_is s)

pub enough : (full other n m : ℕ) → n ≤ m → (ws : List Waiting) → Sounds ws → total ws ≤ n → find full m ws ≡ find other n ws
unfolding find
enough full other zero m h [] g k = find_none full m
enough full other zero m h (w ∷ ws) g k = absurd (no (weight w) (total ws) (taken_some (64 - w.depth) (six w.section)) k)
  where
    no : (a b : ℕ) → 1 ≤ a → a + b ≤ 0 → ⊥
    no a b h k = omega arith
enough full other (suc n) zero h ws g k = absurd (no n h)
  where
    no : (n : ℕ) → suc n ≤ 0 → ⊥
    no n h = omega arith
enough full other (suc n) (suc m) h [] g k = refl
enough full other (suc n) (suc m) h (w ∷ ws) g k = go (λ (l : List Waiting) (s : Sounds l) (r : total l ≤ n). enough full other n m (less n m h) l s r) (look_of w.section w.depth) refl
  where
    less : (n m : ℕ) → suc n ≤ suc m → n ≤ m
    less n m h = omega arith

    rest : total ws ≤ n
    rest = omega (arith, taken_some (64 - w.depth) (six w.section))

    go : ((l : List Waiting) → Sounds l → total l ≤ n → find full m l ≡ find other n l) → (a : Answer Look) → look_of w.section w.depth ≡ a → chain a (next (find full m) w.depth ws) ≡ chain a (next (find other n) w.depth ws)
    go ih (refused j) e = refl
    go ih (ok Nothing) e = unfold next in ih ws g.1 rest
    go ih (ok (Root t)) e = unfold next in ap (λ a. chain a (λ ts. ok (t ∷ ts))) (ih ws g.1 rest)
    go ih (ok (Halved h)) e =
        unfold next in
        ih (wait h.left (w.depth + 1) ∷ wait h.right (w.depth + 1) ∷ ws) (halves-sound, (halves_sound', g.1)) fewer
      where
        cut : Split w.section h
        cut = split w.section w.depth h (sym e)

        halves-sound : Sound (six h.left)
        halves-sound = subst (λ (x : Halves). Sound (six x.left)) (sym cut.is) (left_sound w.section g.0 cut.all)

        halves_sound' : Sound (six h.right)
        halves_sound' = subst (λ (x : Halves). Sound (six x.right)) (sym cut.is) (right_sound w.section g.0 cut.all)

        back : (d : ℕ) → d < 64 → 64 - d ≡ suc (64 - (d + 1))
        back d h = omega arith

        whole : weight w ≡ 1 + (taken binary64 (64 - (w.depth + 1)) (six h.left) + taken binary64 (64 - (w.depth + 1)) (six h.right))
        whole = ap (λ (n : ℕ). taken binary64 n (six w.section)) (back w.depth (halved-low w.section w.depth h (sym e))) ∙ taken-halves (64 - (w.depth + 1)) w.section g.0 h cut

        sum : (a b x t n : ℕ) → x ≡ 1 + (a + b) → x + t ≤ suc n → a + (b + t) ≤ n
        sum a b x t n e k = omega arith

        fewer : total (wait h.left (w.depth + 1) ∷ wait h.right (w.depth + 1) ∷ ws) ≤ n
        fewer = sum _ _ (weight w) (total ws) n whole k

-- ---- so a 2,049th section is never taken: what is refused by there, and where, makes no difference
at_most : (x : ℕ) → x < 2049 → x + 0 ≤ 2048
at_most x h = omega arith

pub no_more : Creators binary64 → (points : Section) → Sound (six points) → (full m : ℕ) → 2048 ≤ m → find full m (wait points 0 ∷ []) ≡ find_roots points
unfolding find_roots
no_more hyp points w full m h = enough full 8 2048 m h (wait points 0 ∷ []) (w, tt) (at_most (weight (wait points 0)) (no_2049 binary64 hyp (six points) w.held))

-- ---- the curve of six points whose roots the nearest point needs
form-sound : (c : Curve) (p : Point) → heights_finite (distance_form c p).val ≡ true → Sound (six (distance_form c p).val)
unfolding distance_form weighted_by sums_of section_of heights_finite
form-sound c p h =
    let v = (distance_form c p).val in
    let l = and_left _ _ h in
    let r = and_right (finite v.w1.y && (finite v.w2.y && finite v.w3.y)) _ h in
    let l' = and_right (finite v.w1.y) _ l in
    let r' = and_right (finite v.w4.y) _ r in
    record {
      held = record {
        h1 = add-fits binary64 _ _;
        h2 = add-fits binary64 _ _;
        h3 = add-fits binary64 _ _;
        h4 = add-fits binary64 _ _;
        h5 = add-fits binary64 _ _;
        h6 = add-fits binary64 _ _;
      };
      all = record {
        h1 = is_finite _ (and_left _ _ l);
        h2 = is_finite _ (and_left _ _ l');
        h3 = is_finite _ (and_right (finite v.w2.y) _ l');
        h4 = is_finite _ (and_left _ _ r);
        h5 = is_finite _ (and_left _ _ r');
        h6 = is_finite _ (and_right (finite v.w5.y) _ r');
      };
    }

-- the end of docs/SECTIONS.md
pub never_2049 : Creators binary64 → Never2049
never_2049 hyp c p h full m k = no_more hyp (distance_form c p).val (form-sound c p h) full m k
