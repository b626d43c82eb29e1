use Rattle.lines.proofs.NameLaws.{name_table_lem}
use Rattle.lines.proofs.instructions.NameTable.new.Goals as goal

pub invariant_of-result : goal.invariant_of-result
invariant_of-result c =
    let e = c.add_tokens.ensures in
    let t = name_table_lem _ _ _ e.source c.add_tokens.result.sound (rw (← e.source) at e.names) in
    record { all = rw t.0 t.2 }
