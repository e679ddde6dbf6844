-- `quintic::heights::products` meets its contract.
use Rattle.quintic.specs.Heights.{products_of}
use Rattle.quintic.proofs.heights.products.Goals as goal

pub returns : goal.returns
unfolding products_of
returns c = simp (c.dot-4.ensures, c.dot-3.ensures, c.dot-2.ensures, c.dot.ensures, c.scale-next.ensures, c.sub.ensures)
