-- `import::curve_at` meets its contract.
use Rattle.import.specs.Drawn.{standing}
use Rattle.import.proofs.Pieces.{from, none, curve_first, curve_second, curve_third, curve_all}
use Rattle.import.proofs.curve_at.Goals as goal

pub returns-in_err-cp1 : goal.returns-in_err-cp1
returns-in_err-cp1 c = rw c.from_residual.ensures (curve_first c.args.p _ (none standing _ c.in_err-cp1.ensures))

pub returns-in_err-cp2 : goal.returns-in_err-cp2
returns-in_err-cp2 c =
    rw c.from_residual-in_err-cp2.ensures (curve_second c.args.p _ (from standing _ c.in_ok-cp1.ensures) c.apart_at.ensures (none standing _ c.in_err-cp2.ensures))

pub returns-in_err-end : goal.returns-in_err-end
returns-in_err-end c =
    rw c.from_residual-in_err-end.ensures
    (curve_third c.args.p _ (from standing _ c.in_ok-cp1.ensures) c.apart_at.ensures (from standing _ c.in_ok-cp2.ensures) c.apart_at-2.ensures (none standing _ c.in_err-end.ensures))

pub returns : goal.returns
returns c =
    curve_all c.args.p _ (from standing _ c.in_ok-cp1.ensures) c.apart_at.ensures (from standing _ c.in_ok-cp2.ensures) c.apart_at-2.ensures (from standing _ c.in_ok-end.ensures)
