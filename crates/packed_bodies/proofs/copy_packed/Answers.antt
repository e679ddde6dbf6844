-- `packed_bodies::copy_packed` meets its contract.
use Rattle.packed_bodies.proofs.Turns.{params_by}
use Rattle.packed_bodies.proofs.copy_packed.Goals as goal

pub returns : goal.returns
returns c = let a = c.args in record { marks = c.copy_words.ensures; firsts = c.copy_firsts.ensures; worsts = c.copy_worsts.ensures; curves = c.copy_numbers.ensures; params = params_by a.b.now a.form a.n a.k a.params.now c.requires.some c.copy_words-2.ensures c.entry_at-at.ensures }
