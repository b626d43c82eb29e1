use Rattle.std.proofs.Common.{rules}
use Rattle.lines.proofs.NameLaws.{operation_is, no_operation, none_of_all}
use Rattle.lines.proofs.instructions.NameTable.operation.Goals as goal

pub returns-in_err-n : goal.returns-in_err-n
returns-in_err-n c = rw c.from_residual.ensures (none_of_all c.args.t.now c.in_err-n.ensures).0

pub returns-then-n-lt-OPERATIONS : goal.returns-then-n-lt-OPERATIONS
returns-then-n-lt-OPERATIONS c = operation_is c.args.t.now c.in_ok-n.n c.in_ok-n.ensures c.if-n-lt-OPERATIONS.true

pub returns-else-n-lt-OPERATIONS : goal.returns-else-n-lt-OPERATIONS
returns-else-n-lt-OPERATIONS c =
    let none = no_operation c.args.t.now c.in_ok-n.n c.in_ok-n.ensures c.if-n-lt-OPERATIONS.false in
    search rules
