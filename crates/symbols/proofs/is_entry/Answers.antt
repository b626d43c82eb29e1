use Rattle.symbols.proofs.FindLaws.{other_key, same-part}
use Rattle.symbols.proofs.is_entry.Goals as goal

pub returns-then-table-at : goal.returns-then-table-at
returns-then-table-at c =
    let a = c.args in
    let r = c.requires in
    other_key a.source.now a.table.now a.below a.k a.t.now a.key r.key r.entry c.if-table-at.true

pub returns-then-k-below : goal.returns-then-k-below
returns-then-k-below c = let a = c.args in
    same-part a.source.now a.table.now a.below a.k a.t.now c.if-k-below.true c.are_same.result c.are_same.ensures
