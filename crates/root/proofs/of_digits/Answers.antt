-- `root::of_digits` meets its contract: a candidate that passed its test by `of_near`, and any other by `of_root`.
use Prim.Native.Nat.{ℕ, ◌*◌, ◌%◌, ◌^◌, ◌≤◌, ◌-◌}
use mathlib.Core.Path.{subst}
use native.Mathlib.Omega.{arith}
use Rattle.root.specs.Root.{IsRoot, IsNear}
use Rattle.root.proofs.Whole.{shifted, shifted_top, root-top, no_nan, of_root}
use Rattle.root.proofs.Near.{of_near}
use Rattle.root.proofs.of_digits.Goals as goal

pub is_root-requires : goal.is_root-requires
is_root-requires c = (shifted_top c.args.m c.args.i c.requires.1, c.requires.3, c.requires.4)

pub float_from_bits-result : goal.float_from_bits-result
float_from_bits-result c = no_nan _ (omega arith)

pub root_by_digits-q-requires : goal.root_by_digits-q-requires
root_by_digits-q-requires c =
    shifted_top c.args.m c.args.i c.requires.1

pub float_from_bits-result-else-is_root : goal.float_from_bits-result-else-is_root
float_from_bits-result-else-is_root c =
    let found : let a = c.args in IsRoot (a.m * 2 ^ (a.i % 2) * 2 ^ 54) c.root_by_digits-q.result = let start = c in
    subst (λ (x : ℕ). IsRoot (x * 2 ^ 54) c.root_by_digits-q.result) (shifted start.args.m start.args.i start.requires.1) c.root_by_digits-q.ensures in
    let top : c.root_by_digits-q.result ≤ 2 ^ 54 - 2 = let start = c in
    root-top start.args.m start.args.i c.root_by_digits-q.result start.requires.1 found in
    no_nan _ (omega (arith, top))

pub returns-then-is_root : goal.returns-then-is_root
returns-then-is_root c = λ x u v e.
    let a = c.args in
    let d = a.c in
    of_near x u a.m a.i d v e c.requires.0 c.requires.1 c.requires.2 c.requires.3
    (subst (λ (z : ℕ). IsNear (z * 2 ^ 54) d) (shifted a.m a.i c.requires.1) (c.is_root.ensures c.if-is_root.true))

pub returns-else-is_root : goal.returns-else-is_root
returns-else-is_root c =
    let found : let a = c.args in IsRoot (a.m * 2 ^ (a.i % 2) * 2 ^ 54) c.root_by_digits-q.result = let start = c in
    subst (λ (x : ℕ). IsRoot (x * 2 ^ 54) c.root_by_digits-q.result) (shifted start.args.m start.args.i start.requires.1) c.root_by_digits-q.ensures in
    λ x u v e.
    let a = c.args in
    of_root x u a.m a.i c.root_by_digits-q.result v e c.requires.0 c.requires.1 c.requires.2 found
