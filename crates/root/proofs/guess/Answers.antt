-- `root::guess` meets its contract.
use mathlib.Core.Path.{◌≡◌, ap, ◌∙◌}
use lib.Ieee.{Float}
use Rattle.root.specs.Guess.{◌⊗◌, half, nearer, inverse_of, high_of, rest_of, step_of, guess}
use Rattle.root.proofs.guess.Goals as goal

pub returns : goal.returns
unfolding guess step_of high_of rest_of inverse_of
returns c =
    let inverse : c.nearer-y.result ≡ inverse_of c.args.x = let h = c.args.x ⊗ half in
    c.nearer-y.ensures ∙ ap (nearer h) (c.nearer-2.ensures ∙ ap (nearer h) (c.nearer.ensures ∙ ap (nearer h) c.first_of.ensures)) in
    let x = c.args.x in ap (λ (y : Float). step_of x y (x ⊗ y)) inverse
