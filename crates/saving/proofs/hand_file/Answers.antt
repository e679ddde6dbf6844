-- `saving::hand_file` meets its contract.
use Rattle.saving.proofs.Takes.{written_over}
use Rattle.saving.proofs.hand_file.Goals as goal

pub returns : goal.returns
returns c =
    written_over c.args.tolerance c.requires c.args.out.now _ _ c.curve_patterns-cs.ensures c.param_patterns-ps.ensures c.copy_patterns.ensures c.copy_patterns-2.ensures c.write_file.ensures
