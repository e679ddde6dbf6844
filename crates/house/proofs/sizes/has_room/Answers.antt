-- `house::sizes::has_room` meets its contract.
use mathlib.Core.Path.{◌≡◌}
use mathlib.Core.Bool.{true}
use Prim.Native.Nat.{◌*◌}
use native.Mathlib.Omega.{arith}
use lib.Dec.{leb}
use borrow.Author.Tests.{le-leb, lt-leb, eq-eqb, ne_eqb}
use Rattle.form.specs.Form.{width, worsts_for}
use Rattle.house.specs.Slices.{room}
use Rattle.house.proofs.Forms.{curves-over, curves-under}
use Rattle.house.proofs.sizes.has_room.Goals as goal

pub returns-then-firsts-k : goal.returns-then-firsts-k
unfolding room
returns-then-firsts-k c = let a = c.args in rw (lt-leb a.k a.firsts c.if-firsts-k.true)

pub returns-then-worsts-worsts_for : goal.returns-then-worsts-worsts_for
unfolding room
returns-then-worsts-worsts_for c =
    let a = c.args in
    simp (le-leb a.k a.firsts (omega arith), lt-leb (worsts_for a.form a.k) a.worsts (rw c.worsts_for.ensures at c.if-worsts-worsts_for.true))

pub returns-then-curves-width : goal.returns-then-curves-width
unfolding room
returns-then-curves-width c =
    let a = c.args in
    simp (le-leb a.k a.firsts (omega arith), le-leb (worsts_for a.form a.k) a.worsts (omega (arith, c.worsts_for.ensures)), lt-leb (width a.form * a.k) a.curves (curves-over a.form a.k a.curves (rw c.width.ensures at c.if-curves-width.true)))

pub returns-then-k-eq0 : goal.returns-then-k-eq0
unfolding room
returns-then-k-eq0 c =
    let worsts-fit : let a = c.args in leb (worsts_for a.form a.k) a.worsts ≡ true = let a = c.args in le-leb (worsts_for a.form a.k) a.worsts (omega (arith, c.worsts_for.ensures)) in
    let curves-fit : let a = c.args in leb (width a.form * a.k) a.curves ≡ true = let a = c.args in le-leb (width a.form * a.k) a.curves (curves-under a.form a.k a.curves (rw c.width.ensures at c.if-curves-width.false)) in
    let a = c.args in
    simp (le-leb a.k a.firsts (omega arith), worsts-fit, curves-fit, eq-eqb a.k 0 c.if-k-eq0.true, le-leb 0 a.params (omega arith))

pub returns : goal.returns
unfolding room
returns c =
    let worsts-fit : let a = c.args in leb (worsts_for a.form a.k) a.worsts ≡ true = let a = c.args in le-leb (worsts_for a.form a.k) a.worsts (omega (arith, c.worsts_for.ensures)) in
    let curves-fit : let a = c.args in leb (width a.form * a.k) a.curves ≡ true = let a = c.args in le-leb (width a.form * a.k) a.curves (curves-under a.form a.k a.curves (rw c.width.ensures at c.if-curves-width.false)) in
    let a = c.args in
    simp (le-leb a.k a.firsts (omega arith), worsts-fit, curves-fit, ne_eqb a.k 0 c.if-k-eq0.false)
