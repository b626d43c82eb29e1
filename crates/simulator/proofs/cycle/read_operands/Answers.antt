use Rattle.simulator.proofs.OperandLaws.{operands-read}
use Rattle.simulator.proofs.cycle.read_operands.Goals as goal

pub returns : goal.returns
returns c = λ core io memory disk frame.
    let a = c.args in
    let p = c.requires in
    operands-read a.f core a.regs.now io memory disk frame _ _ p.1.0 p.1.1 c.sign_extend.ensures c.sign_extend-2.ensures
