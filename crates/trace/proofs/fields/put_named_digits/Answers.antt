use native.Mathlib.Omega.{arith}
use Rattle.isa.specs.Registers.{io_name}
use Rattle.text.proofs.PieceLaws.{more}
use Rattle.trace.specs.LogLines.{field}
use Rattle.trace.proofs.fields.put_named_digits.Goals as goal

pub returns : goal.returns
returns c =
    let a = c.args in
    let name = c.put_name-value_at.ensures in
    let value = c.put_last_digits.ensures in
    (more a.out.now _ _ a.at _ (field (io_name a.n)) _ (omega (arith, name.1)) name.0 value.0, omega arith)
