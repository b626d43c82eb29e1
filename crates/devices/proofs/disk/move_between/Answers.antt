use Rattle.std.proofs.Common.{refl, arith, eq-eqb, ne_eqb}
use Rattle.devices.proofs.MoveLaws.{part-set}
use Rattle.devices.proofs.disk.move_between.Goals as goal

pub returns-then-command-eq1 : goal.returns-then-command-eq1
returns-then-command-eq1 c = let a = c.args in
    rw (eq-eqb _ _ c.if-command-eq1.true) (part-set a.memory.now a.disk.now _ a.k a.buffer a.sector 128 (omega arith) (omega arith) (omega arith) c.move_word.ensures, refl)

pub returns : goal.returns
returns c = let a = c.args in
    rw (ne_eqb _ _ c.if-command-eq1.false) (refl, part-set a.disk.now a.memory.now _ a.k a.sector a.buffer 128 (omega arith) (omega arith) (omega arith) c.move_word-2.ensures)
