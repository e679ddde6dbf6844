-- What the loop of `salvaging::walks::put_part` keep.
use Rattle.salvaging.specs.Layout.{part_of}
use Rattle.salvaging.proofs.Goes.{Goes}
use Rattle.salvaging.proofs.Walk.{left_of}
use Rattle.salvaging.proofs.walks.put_part.Given as goal

abbrev pub invariant-loop-i : goal.invariant-loop-i
invariant-loop-i l = Goes l.initial.out l.at (part_of l.part l.file l.n) l.out l.end (left_of l.part l.file l.n l.last l.i)
