-- `lines::put_numbers` meets its contract. After i turns the first i numbers are there.
use mathlib.Core.Path.{refl, sym}
use mathlib.Core.List.{[], ◌∷◌}
use native.Mathlib.Nat.{add-zero}
use native.Mathlib.Omega.{arith}
use lib.ListN.{take, get_or}
use lib.Ieee.{nan}
use Rattle.text.proofs.Stores.{next}
use Rattle.lines.specs.Lines.{numbers}
use Rattle.lines.proofs.Turns.{length-numbers, numbers-suc}
use Rattle.lines.proofs.put_numbers.Goals as goal

pub loop-x-init : goal.loop-x-init
unfolding numbers
loop-x-init c = (omega arith, record { end = sym (add-zero _); out = refl })

pub loop-x-preserved : goal.loop-x-preserved
loop-x-preserved c =
    let l = c.loop-x in
    let own = take 8 c.args.curve.now in
    let p = c.put_number-end.ensures in
    (omega (arith, p.end, length-numbers (get_or own l.x-index nan ∷ [])), rw (numbers-suc own l.x-index (omega arith)) at (next l.invariant.1 p))
