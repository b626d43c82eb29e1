use Rattle.devices.proofs.MoveLaws.{no_word, stays-busy, gets_free}
use Rattle.devices.proofs.disk.serve.Goals as goal

pub returns-then-left-ne0 : goal.returns-then-left-ne0
returns-then-left-ne0 c = let a = c.args in
    no_word a.d a.io.now a.memory.now a.disk.now c.if-left-ne0.true

pub returns-then-left-eq0 : goal.returns-then-left-eq0
returns-then-left-eq0 c = let a = c.args in
    let w = c.move_between.ensures in
    gets_free a.d a.io.now a.memory.now a.disk.now _ _ c.if-left-ne0.false w.0 w.1 _ c.free_disk.ensures c.if-left-eq0.true

pub returns : goal.returns
returns c = let a = c.args in
    let w = c.move_between.ensures in
    stays-busy a.d a.io.now a.memory.now a.disk.now _ _ c.if-left-ne0.false w.0 w.1 c.if-left-eq0.false
