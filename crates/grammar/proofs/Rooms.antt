-- Room for a file in bytes and in slices: the tests as facts. Assumes nothing.
use mathlib.Core.Path.{◌≡◌}
use mathlib.Core.Bool.{true}
use mathlib.Core.List.{List}
use Prim.Native.Nat.{ℕ, zero, suc, ◌+◌, ◌*◌, ◌<◌, ◌≤◌}
use native.Mathlib.Omega.{arith}
use borrow.Author.Tests.{leb-true, le-leb, eq-eqb, ne_eqb}
use lib.ListN.{length}
use Rattle.float.proofs.Truth.{both}
use Rattle.form.specs.declared.Form.{Form}
use Rattle.form.specs.Form.{width, worsts_for}
use Rattle.house.specs.Limits.{field_for, curve_bytes}
use Rattle.house.specs.File.{params_for}
use Rattle.house.specs.Slices.{room}
use Rattle.house.specs.Layout.{Room, size_for}
use Rattle.house.proofs.Numbers.{split}
use Rattle.grammar.proofs.Formed.{params_some}

-- how many bytes: with no curves, and with some
pub size_none : (form : Form) (n : ℕ) {k : ℕ} → k ≡ 0 → size_for form n k ≡ 20 + 16 * n
size_none form n {k} e = rw (eq-eqb k 0 e)

pub size_some : (form : Form) (n : ℕ) {k : ℕ} → 0 < k → size_for form n k ≡ 20 + 16 * n + curve_bytes form (field_for n) * k + 6 + 8 * n
size_some form n {k} h = rw (ne_eqb k 0 (λ e. omega arith))

-- places in the slices
pub record Places (form : Form) (n k p w c q : ℕ) : Type 0 where
  pub firsts : k ≤ p
  pub worsts : worsts_for form k ≤ w
  pub curves : width form * k ≤ c
  pub params : params_for n k ≤ q

pub places : (form : Form) (n k p w c q : ℕ) → room form n k p w c q ≡ true → Places form n k p w c q
unfolding room
places form n k p w c q h =
    let h0 = split _ _ h in
    let h1 = split _ _ h0.1 in
    let h2 = split _ _ h1.1 in
    record { firsts = leb-true _ _ h0.0; worsts = leb-true _ _ h1.0; curves = leb-true _ _ h2.0; params = leb-true _ _ h2.1 }

pub placing : {form : Form} {n k p w c q : ℕ} → Places form n k p w c q → room form n k p w c q ≡ true
unfolding room
placing r = both _ _ (le-leb _ _ r.firsts) (both _ _ (le-leb _ _ r.worsts) (both _ _ (le-leb _ _ r.curves) (le-leb _ _ r.params)))

-- what room in all gives
module _ {form : Form} {n k : ℕ} {b M P W C Q : List ℕ} (r : Room form n k b M P W C Q) where
  pub room_start : 20 + 16 * n ≤ length b
  room_start = go k r.bytes
    where
      go : (k : ℕ) → size_for form n k ≤ length b → 20 + 16 * n ≤ length b
      go zero h = h
      go (suc k) h = omega (arith, size_some form n {k = suc k} (omega arith))

  pub room_whole : 0 < k → 20 + 16 * n + curve_bytes form (field_for n) * k + 6 + 8 * n ≤ length b
  room_whole h = omega (arith, size_some form n h, r.bytes)

  pub room-params : 0 < k → n ≤ length Q
  room-params h = omega (arith, params_some n h, r.params)
