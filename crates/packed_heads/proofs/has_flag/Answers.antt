-- `packed_heads::has_flag` meets its contract.
use mathlib.Core.Path.{refl}
use Rattle.house.proofs.Numbers.{num_one}
use Rattle.packed_heads.proofs.has_flag.Goals as goal

pub returns : goal.returns
returns c = rw (num_one c.args.b.now c.args.at c.requires, c.flag.ensures, c.wide.ensures.0) refl
