use Rattle.executor.proofs.RegisterLaws.{text-written}
use Rattle.executor.proofs.registers.Registers.put.Goals as goal

pub invariant_of-self : goal.invariant_of-self
invariant_of-self c =
    let a = c.args in
    record { kept = (text-written a.self.now.regs a.self.now.text _ a.n a.x c.if-n-lt3.false c.requires a.self.now.kept c.put_register_digits.ensures).1 }

pub returns : goal.returns
returns c =
    let a = c.args in
    (text-written a.self.now.regs a.self.now.text _ a.n a.x c.if-n-lt3.false c.requires a.self.now.kept c.put_register_digits.ensures).0
