-- `flat_fit::size_in` meets its contract.
use Rattle.flat_fit.proofs.Flat.{given-size, by_size}
use Rattle.flat_fit.proofs.size_in.Goals as goal

pub returns-in-Given : goal.returns-in-Given
returns-in-Given c = given-size c.args.heading _ c.args.n c.in-Given.is c.requires

pub returns-in-By : goal.returns-in-By
returns-in-By c = by_size c.args.heading _ c.args.n _ c.in-By.is c.max_points_to_fit.ensures
