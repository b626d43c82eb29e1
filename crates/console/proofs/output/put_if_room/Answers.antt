use native.Mathlib.Omega.{arith}
use Rattle.console.proofs.AppendLaws.{pieces_one, pieces_none}
use Rattle.console.proofs.output.put_if_room.Goals as goal

pub returns-then-line-at : goal.returns-then-line-at
returns-then-line-at c = pieces_none _ _ _ (omega arith) (omega arith)

pub returns : goal.returns
returns c = pieces_one _ _ _ (omega arith) _ _ (omega arith) c.put_bytes.ensures.0 c.put_bytes.ensures.1
