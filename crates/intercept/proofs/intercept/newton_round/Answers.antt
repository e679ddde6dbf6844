-- `intercept::intercept::newton_round` meets its contract.
use Rattle.intercept.specs.Intercept.{newton_by}
use Rattle.intercept.proofs.Rounds.{fraction}
use Rattle.intercept.proofs.intercept.newton_round.Goals as goal

pub returns : goal.returns
returns c =
    c.round_by.ensures (newton_by c.args.h c.args.d) (fraction _ _ _ _ _ _ c.de_casteljau6-numerator.ensures c.de_casteljau5-denominator.ensures c.abs-near.ensures)
