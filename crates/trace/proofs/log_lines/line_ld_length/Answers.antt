use native.Mathlib.Omega.{arith}
use Rattle.trace.proofs.LengthLaws.{length-LD}
use Rattle.trace.proofs.log_lines.line_ld_length.Goals as goal

pub returns : goal.returns
returns c = λ letter x. rw length-LD (omega arith)
