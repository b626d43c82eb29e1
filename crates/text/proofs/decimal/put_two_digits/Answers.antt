use native.Mathlib.Omega.{arith}
use Rattle.text.proofs.WriteLaws.{write_two}
use Rattle.text.proofs.decimal.put_two_digits.Goals as goal

pub returns : goal.returns
returns c = let a = c.args in
    write_two 10 a.out.now a.at a.n _ _ (omega arith) c.digit.ensures c.digit-2.ensures
