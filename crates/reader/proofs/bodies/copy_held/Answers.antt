-- `reader::bodies::copy_held` meets its contract.
use Rattle.reader.proofs.bodies.copy_held.Goals as goal

pub copy_file-requires : goal.copy_file-requires
copy_file-requires c = rw c.in-Twice.is at c.requires

pub copy_packed-requires : goal.copy_packed-requires
copy_packed-requires c = rw c.in-Once.is at c.requires

pub returns-in-Twice : goal.returns-in-Twice
returns-in-Twice c = rw c.in-Twice.is c.copy_file.ensures

pub returns-in-Once : goal.returns-in-Once
returns-in-Once c = rw c.in-Once.is c.copy_packed.ensures
