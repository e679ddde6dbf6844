-- `import::import_path` meets its contract.
use mathlib.Core.Path.{ap, ◌∙◌}
use native.Mathlib.Omega.{arith}
use Rattle.float.proofs.Refusals.{handed_on}
use Rattle.import.specs.Import.{left}
use Rattle.import.proofs.Paths.{none_read, too_large, no_room, imported}
use Rattle.import.proofs.import_path.Goals as goal

pub returns-in_err-count : goal.returns-in_err-count
returns-in_err-count c =
    ap (λ a. left a c.args.curves.now) (handed_on _ _ c.from_residual.ensures.1)
    ∙ none_read c.args.text.now c.args.curves.now _ c.in_err-count.ensures

pub returns-then-not-small : goal.returns-then-not-small
returns-then-not-small c = too_large c.args.text.now c.args.curves.now c.in_ok-count.ensures c.if-not-small.true

pub returns-then-count-curves : goal.returns-then-count-curves
returns-then-count-curves c =
    no_room c.args.text.now c.args.curves.now c.in_ok-count.ensures c.if-not-small.false (omega arith)

pub returns : goal.returns
returns c =
    imported c.args.text.now c.args.curves.now c.in_ok-count.ensures c.if-not-small.false c.walk.result (omega arith) c.walk.ensures
