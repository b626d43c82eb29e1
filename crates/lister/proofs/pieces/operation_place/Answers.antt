use Rattle.lister.proofs.PieceLaws.{operation-there, none-there}
use Rattle.lister.proofs.pieces.operation_place.Goals as goal

pub returns-then-op-lt-NO_OPERATION-clause-piece : goal.returns-then-op-lt-NO_OPERATION-clause-piece
returns-then-op-lt-NO_OPERATION-clause-piece c = operation-there c.args.op c.if-op-lt-NO_OPERATION.true

pub returns-else-op-lt-NO_OPERATION-clause-piece : goal.returns-else-op-lt-NO_OPERATION-clause-piece
returns-else-op-lt-NO_OPERATION-clause-piece c = none-there c.args.op c.if-op-lt-NO_OPERATION.false
