use native.Mathlib.Omega.{arith}
use Rattle.text.proofs.DecimalLaws.{length-decimal}
use Rattle.text.proofs.PieceLaws.{store_after}
use Rattle.summary.proofs.fields.put_last_number.Goals as goal

pub returns : goal.returns
returns c =
    let a = c.args in
    let p = c.put_number-end.ensures in
    (store_after a.out.now _ a.at _ _ _ (rw length-decimal (omega arith)) p.0, omega arith)
