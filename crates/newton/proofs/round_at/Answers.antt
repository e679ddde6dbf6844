-- `newton::round_at` meets its contract.
use Rattle.newton.specs.Newton.{refine_by}
use Rattle.newton.proofs.Rounds.{fraction}
use Rattle.newton.proofs.round_at.Goals as goal

pub returns : goal.returns
returns c =
    c.round_by.ensures (refine_by c.args.c c.args.q c.args.p) (fraction _ _ _ _ _ _ _ c.de_casteljau4.ensures c.ratio_at-r.ensures c.abs.ensures)
