-- `path_file::put_fit` meets its contract.
use native.Mathlib.Omega.{arith}
use Rattle.path_file.proofs.Ways.{fit-done, fit_refused}
use Rattle.path_file.proofs.put_fit.Goals as goal

pub returns-in-Ok : goal.returns-in-Ok
returns-in-Ok c = (c.put_line.ensures.0, rw (fit-done c.args.ring _ c.in-Ok.ensures) c.put_line.ensures.1)

pub returns-in-Err : goal.returns-in-Err
returns-in-Err c = (omega arith, rw (fit_refused c.args.ring _ c.in-Err.ensures, ← c.number.ensures) c.put_refusal.ensures.1)
