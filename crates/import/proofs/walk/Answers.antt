-- `import::walk` meets its contract.
use Rattle.import.specs.Drawn.{standing}
use Rattle.import.proofs.Pieces.{from, none, marked}
use Rattle.import.proofs.Paths.{path_other, path_no_pair, path-walked}
use Rattle.import.proofs.walk.Goals as goal

pub returns-then-byte_at-ne77 : goal.returns-then-byte_at-ne77
returns-then-byte_at-ne77 c = path_other c.args.text.now c.args.out.now c.past_space-first.ensures c.byte_at.ensures c.if-byte_at-ne77.true

pub returns-in_err-start : goal.returns-in_err-start
returns-in_err-start c =
    rw c.from_residual.ensures
    (path_no_pair c.args.text.now c.args.out.now c.past_space-first.ensures c.byte_at.ensures c.if-byte_at-ne77.false c.past_space.ensures
    (none standing _ c.in_err-start.ensures))

pub walk_on-requires : goal.walk_on-requires
walk_on-requires c = marked (from standing _ c.in_ok-start.ensures)

pub returns : goal.returns
returns c =
    path-walked c.args.text.now c.args.out.now c.past_space-first.ensures c.byte_at.ensures c.if-byte_at-ne77.false c.past_space.ensures
    (from standing _ c.in_ok-start.ensures) c.walk_on.ensures
