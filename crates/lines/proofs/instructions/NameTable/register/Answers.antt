use Rattle.lines.proofs.NameLaws.{register_is}
use Rattle.lines.proofs.instructions.NameTable.register.Goals as goal

pub returns-in-Some : goal.returns-in-Some
returns-in-Some c = register_is c.args.t.now c.in-Some.place c.in-Some.ensures c.if-place-ge-OPERATIONS.true
