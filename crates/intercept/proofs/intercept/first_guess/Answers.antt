-- `intercept::intercept::first_guess` meets its contract.
use Rattle.intercept.specs.Intercept.{guess_of}
use Rattle.intercept.proofs.Guess.{guess_is, guess_lost}
use Rattle.intercept.proofs.intercept.first_guess.Goals as goal

pub returns-then-not-two_finite : goal.returns-then-not-two_finite
unfolding guess_of
returns-then-not-two_finite c = guess_lost c.args.s (simp (c.two_finite.ensures, c.coefficients-l.ensures) at c.if-not-two_finite.true)

pub returns : goal.returns
unfolding guess_of
returns c = simp c.coefficients-l.ensures (guess_is c.args.s (simp (c.two_finite.ensures, c.coefficients-l.ensures) at c.if-not-two_finite.false))
