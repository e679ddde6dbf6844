-- White space, with a comma in it or none: as it is read, and as the productions have it. Assumes nothing.
use Prim.Native.Nat.{ℕ, ◌≤◌, ◌<◌}
use mathlib.Core.Path.{◌≡◌, refl}
use mathlib.Core.Bool.{Bool, true, false, ◌||◌, cond}
use mathlib.Core.List.{List, [], ◌∷◌}
use native.Mathlib.Omega.{arith}
use borrow.Author.Tests.{eqb-true, ne_eqb}
use lib.Dec.{eqb}
use lib.ListN.{length}
use Rattle.float.proofs.Truth.{never}
use Rattle.path.specs.Numbers.{front, behind, is_space, leading, those, past}
use Rattle.path.specs.Grammar.{apart}
use Rattle.productions.specs.Productions.{Wsp, blank, tab, return, newline, Wsp*, CommaWsp?}

-- ---- bytes of a kind

-- a text that begins with a byte other than 0
pub begins : (s : List ℕ) (c : ℕ) → front s ≡ c → 0 < c → s ≡ c ∷ behind s
begins [] c e h = absurd (omega arith)
begins (d ∷ s) c e h = rw e refl

module _ (p : ℕ → Bool) where
  -- where there are none
  pub past_none : (s : List ℕ) → p (front s) ≡ false → past p s ≡ s
  unfolding leading
  past_none [] h = refl
  past_none (c ∷ s) h = rw h refl

  pub those_none : (s : List ℕ) → p (front s) ≡ false → those p s ≡ []
  unfolding leading
  those_none [] h = refl
  those_none (c ∷ s) h = rw h refl

  -- what is behind them begins with none
  pub stops : p 0 ≡ false → (s : List ℕ) → p (front (past p s)) ≡ false
  unfolding leading
  stops z [] = z
  stops z (c ∷ s) = go (p c) refl (stops z s)
    where
      go : (b : Bool) → p c ≡ b → p (front (past p s)) ≡ false → p (front (past p (c ∷ s))) ≡ false
      go true e r = rw e r
      go false e r = rw e e

-- ---- wsp*

is_space_is : {c : ℕ} → Wsp c → is_space c ≡ true
unfolding is_space
is_space_is blank = refl
is_space_is tab = refl
is_space_is return = refl
is_space_is newline = refl

space_is : (c : ℕ) → is_space c ≡ true → Wsp c
unfolding is_space
space_is c h = go (eqb c 32) (eqb c 9) (eqb c 10) (eqb c 13) refl refl refl refl h
  where
    go : (x y z w : Bool) → eqb c 32 ≡ x → eqb c 9 ≡ y → eqb c 10 ≡ z → eqb c 13 ≡ w → x || (y || (z || w)) ≡ true → Wsp c
    go true y z w ex ey ez ew k = rw (eqb-true c 32 ex) blank
    go false true z w ex ey ez ew k = rw (eqb-true c 9 ey) tab
    go false false true w ex ey ez ew k = rw (eqb-true c 10 ez) newline
    go false false false true ex ey ez ew k = rw (eqb-true c 13 ew) return
    go false false false false ex ey ez ew k = never k

pub wsps_past : (s : List ℕ) → Wsp* s (past is_space s)
unfolding leading
wsps_past [] = Wsp*.none
wsps_past (c ∷ s) = go (is_space c) refl (wsps_past s)
  where
    go : (b : Bool) → is_space c ≡ b → Wsp* s (past is_space s) → Wsp* (c ∷ s) (past is_space (c ∷ s))
    go true e r = rw e (Wsp*.more (space_is c e) r)
    go false e r = rw e Wsp*.none

pub past_wsps : {s t : List ℕ} → Wsp* s t → is_space (front t) ≡ false → past is_space s ≡ t
unfolding leading
past_wsps (Wsp*.none {s = s}) h = past_none is_space s h
past_wsps (Wsp*.more w r) h = rw (is_space_is w) (past_wsps r h)

-- to the end of the text
pub past_end : {s : List ℕ} → Wsp* s [] → past is_space s ≡ []
unfolding is_space
past_end w = past_wsps w refl

pub wsps_join : {s t r : List ℕ} → Wsp* s t → Wsp* t r → Wsp* s r
wsps_join Wsp*.none k = k
wsps_join (Wsp*.more w r) k = Wsp*.more w (wsps_join r k)

pub wsps_within : {s r : List ℕ} → Wsp* s r → length r ≤ length s
wsps_within Wsp*.none = omega arith
wsps_within (Wsp*.more w r) = omega (arith, wsps_within r)

-- ---- comma-wsp?

only_wsps : {s r : List ℕ} → Wsp* s r → CommaWsp? s r
only_wsps Wsp*.none = CommaWsp?.none
only_wsps (Wsp*.more w r) = CommaWsp?.wsp w r Wsp*.none

with_comma : {s t r : List ℕ} → Wsp* s (44 ∷ t) → Wsp* t r → CommaWsp? s r
with_comma Wsp*.none k = CommaWsp?.comma k
with_comma (Wsp*.more w r) k = CommaWsp?.wsp_comma w r k

pub comma-apart : (s : List ℕ) → CommaWsp? s (apart s)
unfolding apart
comma-apart s = go (eqb (front (past is_space s)) 44) refl
  where
    go : (b : Bool) → eqb (front (past is_space s)) 44 ≡ b → CommaWsp? s (cond b (past is_space (behind (past is_space s))) (past is_space s))
    go true e =
        let z : past is_space s ≡ 44 ∷ behind (past is_space s) = begins (past is_space s) 44 (eqb-true (front (past is_space s)) 44 e) (omega arith) in
        let w : Wsp* s (44 ∷ behind (past is_space s)) = (rw (← z) (wsps_past s)) in
        with_comma w (wsps_past (behind (past is_space s)))
    go false e = only_wsps (wsps_past s)

-- the first byte of a number: a sign, a point or a digit
pub record Start (s : List ℕ) : Type 0 where
  pub low : 43 ≤ front s
  pub high : front s ≤ 57
  pub comma : front s ≡ 44 → ⊥

-- a byte that is above the white space is none
pub no_space : (c : ℕ) → 33 ≤ c → is_space c ≡ false
unfolding is_space
no_space c h = simp (ne_eqb c 32 (λ e. omega arith), ne_eqb c 9 (λ e. omega arith), ne_eqb c 10 (λ e. omega arith), ne_eqb c 13 (λ e. omega arith))

pub start_space : {s : List ℕ} → Start s → is_space (front s) ≡ false
start_space {s} h = no_space (front s) (omega (arith, h.low))

-- behind white space, and behind a comma
apart_wsps : {s t : List ℕ} → Wsp* s t → Start t → apart s ≡ t
unfolding apart
apart_wsps {s} {t} w h = rw (past_wsps w (start_space h), ne_eqb (front t) 44 h.comma) refl

apart-comma : {s u t : List ℕ} → Wsp* s (44 ∷ u) → Wsp* u t → Start t → apart s ≡ t
unfolding apart
apart-comma {u = u} w k h = rw (past_wsps w (no_space 44 (omega arith))) (past_wsps k (start_space h))

pub apart-back : {s t : List ℕ} → CommaWsp? s t → Start t → apart s ≡ t
apart-back CommaWsp?.none h = apart_wsps Wsp*.none h
apart-back (CommaWsp?.wsp w r k) h = apart_wsps (Wsp*.more w (wsps_join r k)) h
apart-back (CommaWsp?.wsp_comma w r k) h = apart-comma (Wsp*.more w r) k h
apart-back (CommaWsp?.comma k) h = apart-comma Wsp*.none k h

-- what is behind the white space is the comma or the number
pub past-comma : {s t : List ℕ} → CommaWsp? s t → Start t → (43 ≤ front (past is_space s)) × (front (past is_space s) ≤ 57)
past-comma CommaWsp?.none h = rw (past_wsps Wsp*.none (start_space h)) (h.low, h.high)
past-comma (CommaWsp?.wsp w r k) h = rw (past_wsps (Wsp*.more w (wsps_join r k)) (start_space h)) (h.low, h.high)
past-comma (CommaWsp?.wsp_comma w r k) h = rw (past_wsps (Wsp*.more w r) (no_space 44 (omega arith))) (omega arith, omega arith)
past-comma (CommaWsp?.comma {s = s} k) h = rw (past_wsps (Wsp*.none {s = 44 ∷ s}) (no_space 44 (omega arith))) (omega arith, omega arith)

pub comma_within : {s t : List ℕ} → CommaWsp? s t → length t ≤ length s
comma_within CommaWsp?.none = omega arith
comma_within (CommaWsp?.wsp w r k) = omega (arith, wsps_within r, wsps_within k)
comma_within (CommaWsp?.wsp_comma w r k) = omega (arith, wsps_within r, wsps_within k)
comma_within (CommaWsp?.comma k) = omega (arith, wsps_within k)
