use mathlib.Core.Path.{refl}
use Rattle.text.proofs.PieceLaws.{after_store}
use Rattle.trace.proofs.fields.put_digits.Goals as goal

pub returns : goal.returns
returns c =
    let a = c.args in
    (after_store a.out.now _ a.at _ _ _ refl c.put_eight.ensures, refl)
