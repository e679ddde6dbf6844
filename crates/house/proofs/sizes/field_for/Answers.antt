-- `house::sizes::field_for` meets its contract.
use native.Mathlib.Omega.{arith}
use borrow.Author.Tests.{le-leb, lt-leb}
use Rattle.house.specs.Limits.{field_for, most_small}
use Rattle.house.proofs.sizes.field_for.Goals as goal

pub returns-then-n-gt-MOST_SMALL : goal.returns-then-n-gt-MOST_SMALL
unfolding field_for
returns-then-n-gt-MOST_SMALL c = rw (lt-leb c.args.n most_small (omega arith))

pub returns : goal.returns
unfolding field_for
returns c = rw (le-leb c.args.n most_small (omega arith))
