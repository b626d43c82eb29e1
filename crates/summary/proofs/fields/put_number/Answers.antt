use mathlib.Core.Path.{refl}
use Rattle.text.proofs.PieceLaws.{after_store}
use Rattle.summary.proofs.fields.put_number.Goals as goal

pub returns : goal.returns
returns c =
    let a = c.args in
    let p = c.put_decimal.ensures in
    (after_store a.out.now _ a.at _ _ _ refl p.0, p.1)
