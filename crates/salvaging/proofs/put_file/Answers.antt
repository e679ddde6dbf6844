-- `salvaging::put_file` meets its contract.
use mathlib.Core.Path.{refl}
use native.Mathlib.Omega.{arith}
use Rattle.house.proofs.Rows.{length-les}
use Rattle.sieve.specs.Sieve.{kept_of}
use Rattle.salvaging.specs.Layout.{marks_of}
use Rattle.salvaging.proofs.Texts.{file-put}
use Rattle.salvaging.proofs.put_file.Goals as goal

pub put_part-requires : goal.put_part-requires
put_part-requires c = let a = c.args in (c.requires.0, omega (arith, c.requires.1.0, c.requires.1.1, length-les (kept_of (marks_of a.file.now a.n))))

pub returns : goal.returns
returns c = let a = c.args in file-put a.file.now a.n a.kept c.requires.1.0 a.out.now c.requires.1.1 c.put_head.ensures c.eight.ensures c.put_eight.ensures refl c.put_head-2.ensures c.put_part.ensures
