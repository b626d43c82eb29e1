use native.Mathlib.Omega.{arith}
use Rattle.symbols.proofs.EmptyLaws.{zeros_empty}
use Rattle.assembler.proofs.calls.pass_with.Goals as goal

pub new-names-requires-clause-empty : goal.new-names-requires-clause-empty
new-names-requires-clause-empty g c = zeros_empty 8812 (omega arith)

pub find_labels-requires-clause-empty : goal.find_labels-requires-clause-empty
find_labels-requires-clause-empty g c = zeros_empty g.row.WORDS c.requires.table
