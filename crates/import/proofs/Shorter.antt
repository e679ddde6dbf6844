-- What is read takes a byte at least. Assumes nothing.
use Prim.Native.Nat.{ℕ, ◌+◌, ◌-◌, ◌*◌, ◌^◌, ◌≤◌, ◌<◌}
use mathlib.Core.Path.{◌≡◌, refl}
use mathlib.Core.Bool.{Bool, true, false, ◌&&◌, cond}
use mathlib.Core.List.{List, [], ◌∷◌, ◌++◌}
use native.Mathlib.Omega.{arith}
use borrow.Author.Tests.{eqb-true, ltb-true}
use lib.Dec.{eqb, ltb, leb}
use lib.ListN.{length, length-drop}
use Rattle.float.specs.Answer.{Answer, ok, refused, unless, ◌>>=◌}
use Rattle.float.proofs.Truth.{and_left}
use Rattle.path.specs.Range.{no_path}
use Rattle.path.specs.Numbers.{Taken, taken, front, behind, is_space, is_digit, those, past, value_from, spelled, unsigned, number}
use Rattle.path.specs.Decimals.{signed}
use Rattle.path.specs.Grammar as grammar
use Rattle.path.specs.Grammar.{apart, pair, arguments, drawn_by, step}
use Rattle.path.specs.declared.Letter.{Letter}
use Rattle.path.specs.declared.Letter.TheVariants.{Line, Curve}
use Rattle.numerals.proofs.Leading.{leading_within, those-length, past-length}

-- the rest is shorter than the text s
abbrev pub Shorter : {A : Type 0} → List ℕ → Answer (Taken A) → Type 0
Shorter s (ok n) = length n.rest < length s
Shorter s (refused q) = Unit {0}

weaker : {A : Type 0} (s t : List ℕ) (a : Answer (Taken A)) → length t ≤ length s → Shorter t a → Shorter s a
weaker s t (ok n) l h = omega arith
weaker s t (refused q) l h = tt

onward : {A B : Type 0} (s : List ℕ) (a : Answer (Taken A)) (f : Taken A → Answer (Taken B)) → Shorter s a → ((n : Taken A) → length n.rest < length s → Shorter s (f n)) → Shorter s (◌>>=◌ a f)
onward s (ok n) f h k = k n h
onward s (refused q) f h k = tt

-- ---- numbers

past_within : (p : ℕ → Bool) (s : List ℕ) → length (past p s) ≤ length s
past_within p s = omega (arith, past-length p s)

-- a text that begins with a byte other than 0 has one
begins : (s : List ℕ) → 0 < front s → length (behind s) < length s
begins [] h = absurd (omega arith)
begins (c ∷ s) h = omega arith

unless_shorter : {A : Type 0} (t : List ℕ) (c : Bool) (n : Taken A) → (c ≡ true → length n.rest < length t) → Shorter t (unless no_path c (ok n))
unless_shorter t true n h = h refl
unless_shorter t false n h = tt

spelled_shorter : (b : Bool) (t w f rest : List ℕ) → (0 < length w + length f → length rest < length t) → Shorter t (spelled b w f rest)
unfolding spelled
spelled_shorter b t w f rest h =
    unless_shorter t (ltb 0 (length w + length f) && leb (length f) 3) (taken (signed b (value_from 0 (w ++ f) * 10 ^ (3 - length f))) rest)
    (λ e. h (ltb-true 0 (length w + length f) (and_left (ltb 0 (length w + length f)) (leb (length f) 3) e)))

unsigned_shorter : (b : Bool) (t : List ℕ) → Shorter t (unsigned b t)
unfolding unsigned
unsigned_shorter b t = go (eqb (front (past is_digit t)) 46) refl
  where
    go : (c : Bool) → eqb (front (past is_digit t)) 46 ≡ c → Shorter t (cond c (spelled b (those is_digit t) (those is_digit (behind (past is_digit t))) (past is_digit (behind (past is_digit t)))) (spelled b (those is_digit t) [] (past is_digit t)))
    go true e =
        let z : front (past is_digit t) ≡ 46 = eqb-true (front (past is_digit t)) 46 e in
        let k = begins (past is_digit t) (omega arith) in
        spelled_shorter b t (those is_digit t) (those is_digit (behind (past is_digit t))) (past is_digit (behind (past is_digit t)))
        (λ _. omega (arith, k, past_within is_digit t, past_within is_digit (behind (past is_digit t))))
    go false e =
        spelled_shorter b t (those is_digit t) [] (past is_digit t)
        (λ h. omega (arith, past-length is_digit t, those-length is_digit t, leading_within is_digit t))

behind_within : (s : List ℕ) → length (behind s) ≤ length s
behind_within s = simp length-drop (omega arith)

pub number_shorter : (t : List ℕ) → Shorter t (number t)
unfolding number
number_shorter t = go (eqb (front t) 43) (eqb (front t) 45)
  where
    go : (c d : Bool) → Shorter t (cond c (unsigned false (behind t)) (cond d (unsigned true (behind t)) (unsigned false t)))
    go true d = weaker t (behind t) (unsigned false (behind t)) (behind_within t) (unsigned_shorter false (behind t))
    go false true = weaker t (behind t) (unsigned true (behind t)) (behind_within t) (unsigned_shorter true (behind t))
    go false false = unsigned_shorter false t

-- ---- pairs and segments

apart_within : (s : List ℕ) → length (apart s) ≤ length s
unfolding apart
apart_within s = go (eqb (front (past is_space s)) 44)
  where
    go : (c : Bool) → length (cond c (past is_space (behind (past is_space s))) (past is_space s)) ≤ length s
    go true = omega (arith, past_within is_space s, behind_within (past is_space s), past_within is_space (behind (past is_space s)))
    go false = past_within is_space s

-- behind what was read, and white space
further : {A : Type 0} (s t : List ℕ) (a : Answer (Taken A)) → length t < length s → Shorter (apart t) a → Shorter s a
further s t a l h = weaker s (apart t) a (omega (arith, apart_within t)) h

pub pair_shorter : (s : List ℕ) → Shorter s (pair s)
unfolding pair
pair_shorter s = onward s (number s) _ (number_shorter s) (λ x h. onward s (number (apart x.rest)) _ (further s x.rest (number (apart x.rest)) h (number_shorter (apart x.rest))) (λ y k. k))

pub arguments_shorter : (l : Letter) (s : List ℕ) → Shorter s (arguments l s)
unfolding arguments
arguments_shorter Line s = onward s (pair s) _ (pair_shorter s) (λ p h. h)
arguments_shorter Curve s =
    onward s (pair s) _ (pair_shorter s)
    (λ a h. onward s (pair (apart a.rest)) _ (further s a.rest (pair (apart a.rest)) h (pair_shorter (apart a.rest)))
    (λ b k. onward s (pair (apart b.rest)) _ (further s b.rest (pair (apart b.rest)) k (pair_shorter (apart b.rest))) (λ c m. m)))

-- ---- a step

abbrev pub ShorterStep : List ℕ → Answer grammar.Step → Type 0
ShorterStep s (ok (grammar.drawn l g rest)) = length rest < length s
ShorterStep s (ok grammar.closed) = Unit {0}
ShorterStep s (ok grammar.ended) = Unit {0}
ShorterStep s (refused q) = Unit {0}

drawn_shorter : (l : Letter) (s t : List ℕ) → length t ≤ length s → ShorterStep s (drawn_by l t)
unfolding drawn_by
drawn_shorter l s t w = go (arguments l t) (arguments_shorter l t)
  where
    go : (a : Answer (Taken grammar.Segment)) → Shorter t a → ShorterStep s (◌>>=◌ a (λ g. ok (grammar.drawn l g.value g.rest)))
    go (ok g) h = omega arith
    go (refused q) h = tt

pub step_shorter : (l : Letter) (s : List ℕ) → ShorterStep s (step l s)
unfolding step
step_shorter l s = go (eqb (length (past is_space s)) 0) (eqb (front (past is_space s)) 90) (eqb (front (past is_space s)) 76) (eqb (front (past is_space s)) 67) (eqb (length (past is_space (behind (past is_space s)))) 0)
  where
    within : length (past is_space (behind (past is_space s))) ≤ length s
    within = omega (arith, past_within is_space s, behind_within (past is_space s), past_within is_space (behind (past is_space s)))

    go : (e z n c d : Bool) → ShorterStep s (cond e (ok grammar.ended) (cond z (unless no_path d (ok grammar.closed)) (cond n (drawn_by Line (past is_space (behind (past is_space s)))) (cond c (drawn_by Curve (past is_space (behind (past is_space s)))) (drawn_by l (apart s))))))
    go true z n c d = tt
    go false true n c true = tt
    go false true n c false = tt
    go false false true c d = drawn_shorter Line s _ within
    go false false false true d = drawn_shorter Curve s _ within
    go false false false false d = drawn_shorter l s (apart s) (apart_within s)
