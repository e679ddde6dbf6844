-- `verdict::put_verdict` meets its contract.
use native.Mathlib.Omega.{arith}
use Rattle.checker.specs.Check.{checked_answer}
use Rattle.verdict.specs.Verdict.{verdict_in}
use Rattle.verdict.proofs.put_verdict.Goals as goal

pub returns-in-Passed : goal.returns-in-Passed
unfolding verdict_in checked_answer
returns-in-Passed c = (omega arith, rw c.in-Passed.is c.put_two.ensures.1)

pub returns-in-Faulty : goal.returns-in-Faulty
unfolding verdict_in checked_answer
returns-in-Faulty c = (omega arith, rw c.in-Faulty.is c.put_fault.ensures.1)

pub returns-in-Refused : goal.returns-in-Refused
unfolding verdict_in checked_answer
returns-in-Refused c = (omega arith, rw (c.in-Refused.is) (rw c.number.ensures at c.put_refusal.ensures.1))
