-- A whole text, from bytes of a call's own to those that it was lent. Assumes nothing.
use mathlib.Core.Path.{◌≡◌, ap, ap₂, ◌∙◌}
use mathlib.Core.List.{List}
use Prim.Native.Nat.{ℕ, ◌<◌, ◌≤◌, ◌+◌}
use native.Mathlib.Omega.{arith}
use borrow.Author.Tests.{le-leb, lt-leb}
use lib.ListN.{length, take, drop}
use lib.Seq.{sets, take_at}
use Rattle.float.specs.Answer.{ok, refused}
use Rattle.text.specs.Put.{Put}
use Rattle.text.proofs.Stores.{written-sets}
use Rattle.lines.specs.Handed.{Handed, handed, hand_over}

pub over-short : (t O : List ℕ) → length O < length t → handed (refused 4) O ≡ hand_over t O
unfolding hand_over
over-short t O h = rw (lt-leb (length t) (length O) h)

pub over-whole : (t O : List ℕ) {O' : List ℕ} {e : ℕ} → length t ≤ length O → (e ≡ 0 + length t) × (O' ≡ sets O 0 t) → handed (ok e) O' ≡ hand_over t O
unfolding hand_over
over-whole t O {O'} {e} h p =
    let n : e ≡ length t = omega (arith, p.0) in
    rw (le-leb (length t) (length O) h) (ap₂ handed (ap ok n) (p.1 ∙ written-sets t O h))

-- a text that was put at the front of T is what its first bytes are, and they are handed over for it
module _ {T t T' : List ℕ} {s : ℕ} (p : Put T 0 t T' s) (h : s ≤ length T) where
  front : take s T' ≡ t
  front =
      let z : length t ≡ s = omega (arith, p.end) in
      rw (p.out, written-sets t T (rw z h)) (take_at t (drop (length t) T) s z)

  pub over-front : {H : Handed} (O : List ℕ) → H ≡ hand_over (take s T') O → H ≡ hand_over t O
  over-front O e = rw front at e
