-- `faults::is_kept` goes by the form.
use Rattle.faults.proofs.Forms.{kept-eight}
use Rattle.faults.proofs.is_kept.Goals as goal

pub returns-in-Eight : goal.returns-in-Eight
returns-in-Eight c = kept-eight _ _ _ _ _ c.in-Eight.is
