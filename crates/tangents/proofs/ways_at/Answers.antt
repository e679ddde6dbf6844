-- `tangents::ways_at`: the mark behind a cut is given, so it is not mark 0 again.
use mathlib.Core.Path.{ap, ◌∙◌}
use Rattle.float.specs.Answer.{outcome}
use Rattle.ring.specs.declared.Outline.TheVariants.{Open}
use Rattle.tangents.proofs.Blocks.{ways_as-closed}
use Rattle.tangents.proofs.ways_at.Goals as goal

pub returns : goal.returns
returns c = c.ways_round.ensures ∙ ap outcome (ways_as-closed Open c.args.marks.now c.args.at c.requires)
