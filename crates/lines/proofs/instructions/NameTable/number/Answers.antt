use Rattle.std.proofs.Common.{rules}
use Rattle.lines.proofs.NameLaws.{looked_up}
use Rattle.lines.proofs.instructions.NameTable.number.Goals as goal

pub returns : goal.returns
returns c =
    let known = looked_up _ _ _ _ c.args.self.now.all c.find.result c.find.ensures in
    search rules
