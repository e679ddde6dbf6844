-- `packer::records::curves_meet` meets its contract. After i turns the first i curves end where the next ones start.
use mathlib.Core.Path.{◌≡◌, refl, sym, ◌∙◌}
use Prim.Native.Nat.{◌+◌, ◌-◌, ◌≤◌}
use native.Mathlib.Omega.{arith}
use lib.ListN.{drop}
use Rattle.float.proofs.Truth.{true-false}
use Rattle.house.specs.Bytes.{words, same}
use Rattle.packed.specs.Each.{each}
use Rattle.packed.proofs.Sizes.{rest_long}
use Rattle.packer.specs.Layout.{record_at, numbers_place}
use Rattle.packer.proofs.Pieces.{numbers_within}
use Rattle.packer.proofs.Meets.{meet_more, meet_all, meet_not}
use Rattle.packer.proofs.records.curves_meet.Goals as goal
use Rattle.packer.proofs.records.curves_meet.Goals.{In-loop-i}

-- curve i, and the one behind it, are within the file
this_of : (c : In-loop-i) → let a = c.args in numbers_place a.form a.n c.loop-i.i + 64 ≤ record_at a.form a.n a.k
this_of c = let a = c.args in omega (arith, numbers_within a.form a.n a.k c.loop-i.i (omega arith), rest_long a.form)

next_of : (c : In-loop-i) → let a = c.args in numbers_place a.form a.n (c.loop-i.i + 1) + 64 ≤ record_at a.form a.n a.k
next_of c = let a = c.args in omega (arith, numbers_within a.form a.n a.k (c.loop-i.i + 1) (omega arith), rest_long a.form)

pub loop-i-init : goal.loop-i-init
unfolding each
loop-i-init c = refl

pub numbers_at-requires : goal.numbers_at-requires
numbers_at-requires c =
    let this = this_of (goal.at.numbers_at-requires c).In-loop-i in
    omega (arith, this, c.requires.0)

pub overflow_add-end : goal.overflow_add-end
overflow_add-end c =
    let this = this_of (goal.at.overflow_add-end c).In-loop-i in
    omega (arith, this, c.numbers_at.ensures, c.requires.0)

pub numbers_at-requires-in-loop-i : goal.numbers_at-requires-in-loop-i
numbers_at-requires-in-loop-i c =
    let next = next_of (goal.at.numbers_at-requires-in-loop-i c).In-loop-i in
    omega (arith, next, c.requires.0)

pub same_point-requires : goal.same_point-requires
same_point-requires c =
    let this = this_of (goal.at.same_point-requires c).In-loop-i in
    let next = next_of (goal.at.same_point-requires c).In-loop-i in
    (omega (arith, this, c.numbers_at.ensures, c.requires.0), omega (arith, next, c.numbers_at-in-loop-i.ensures, c.requires.0))

pub loop-i-preserved : goal.loop-i-preserved
loop-i-preserved c =
    let told : let a = c.args in same (words 2 (drop (numbers_place a.form a.n c.loop-i.i + 48) a.file.now)) (words 2 (drop (numbers_place a.form a.n (c.loop-i.i + 1)) a.file.now)) ≡ c.same_point.result = sym (rw (c.numbers_at.ensures, c.numbers_at-in-loop-i.ensures) at c.same_point.ensures) in
    let a = c.args in meet_more a.file.now a.form a.n a.k c.loop-i.i (omega arith) c.loop-i.invariant (told ∙ c.if-not-same_point.false)

pub returns-then-not-same_point : goal.returns-then-not-same_point
returns-then-not-same_point c =
    let told : let a = c.args in same (words 2 (drop (numbers_place a.form a.n c.loop-i.i + 48) a.file.now)) (words 2 (drop (numbers_place a.form a.n (c.loop-i.i + 1)) a.file.now)) ≡ c.same_point.result = sym (rw (c.numbers_at.ensures, c.numbers_at-in-loop-i.ensures) at c.same_point.ensures) in
    let a = c.args in meet_not a.file.now a.form a.n a.k c.loop-i.i (omega arith) (λ e. true-false _ e (told ∙ c.if-not-same_point.true))

pub returns : goal.returns
returns c = let a = c.args in let e : c.loop-i.i ≡ a.k - 1 = omega arith in sym (meet_all a.file.now a.form a.n a.k (rw e at c.loop-i.invariant))
