use native.Mathlib.Omega.{arith}
use Rattle.isa.proofs.IoLaws.{name-length}
use Rattle.trace.proofs.LengthLaws.{length-H}
use Rattle.trace.proofs.log_lines.line_h_length.Goals as goal

pub overflow_add-result-2 : goal.overflow_add-result-2
overflow_add-result-2 c = omega (arith, name-length c.args.n)

pub overflow_add-result-3 : goal.overflow_add-result-3
overflow_add-result-3 c = omega (arith, name-length c.args.n)

pub returns : goal.returns
returns c = λ x. rw length-H (omega arith)
