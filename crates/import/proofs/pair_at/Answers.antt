-- `import::pair_at` meets its contract.
use Rattle.numerals.specs.Numerals.{capped}
use Rattle.import.proofs.Pieces.{from, none, fits, pair_first, pair_second, pair_both}
use Rattle.import.proofs.pair_at.Goals as goal

pub returns-in_err-x : goal.returns-in_err-x
returns-in_err-x c = rw c.from_residual.ensures (pair_first _ (none capped _ c.in_err-x.ensures))

pub returns-in_err-y : goal.returns-in_err-y
returns-in_err-y c = rw c.from_residual-in_err-y.ensures (pair_second _ (from capped _ c.in_ok-x.ensures) c.apart_at.ensures (none capped _ c.in_err-y.ensures))

pub nearest-requires : goal.nearest-requires
nearest-requires c = fits (from capped _ c.in_ok-x.ensures)

pub nearest-requires-2 : goal.nearest-requires-2
nearest-requires-2 c = fits (from capped _ c.in_ok-y.ensures)

pub returns : goal.returns
returns c =
    pair_both _ (from capped _ c.in_ok-x.ensures) c.apart_at.ensures (from capped _ c.in_ok-y.ensures)
    c.nearest.ensures c.nearest-2.ensures c.is_small.ensures c.is_small-2.ensures
