-- `path_file::put_path` meets its contract.
use native.Mathlib.Omega.{arith}
use mathlib.Core.Path.{sym, ◌∙◌}
use Rattle.path_file.proofs.Ways.{found_is, path_long, path_broken, path_many, path-fit}
use Rattle.path_file.proofs.put_path.Goals as goal

pub returns-then-file-gt-MOST_BYTES : goal.returns-then-file-gt-MOST_BYTES
returns-then-file-gt-MOST_BYTES c = (omega arith, rw (path_long c.args.ring c.args.file.now (omega arith), ← c.number.ensures) c.put_refusal.ensures.1)

pub returns-in_default : goal.returns-in_default
returns-in_default c = (omega arith, rw (path_broken c.args.ring c.args.file.now (omega arith) (sym c.find_held.ensures ∙ c.in_default.is), ← c.number-in_default.ensures) c.put_refusal-in_default.ensures.1)

pub returns-then-n-gt-MOST_TAKEN : goal.returns-then-n-gt-MOST_TAKEN
returns-then-n-gt-MOST_TAKEN c = (omega arith, rw (path_many c.args.ring (omega arith) (found_is c.in-Some.ensures) (omega arith), ← c.number-then-n-gt-MOST_TAKEN.ensures) c.put_refusal-then-n-gt-MOST_TAKEN.ensures.1)

pub put_fit-requires : goal.put_fit-requires
put_fit-requires c = ((found_is c.in-Some.ensures).marks, (omega arith, omega arith))

pub returns : goal.returns
returns c = (omega arith, rw (path-fit c.args.ring (omega arith) (found_is c.in-Some.ensures) (omega arith)) c.put_fit.ensures.1)
