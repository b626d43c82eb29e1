use mathlib.Core.Path.{refl}
use Rattle.text.proofs.PieceLaws.{after_store}
use Rattle.trace.proofs.fields.put_name.Goals as goal

pub returns : goal.returns
returns c =
    let a = c.args in
    let p = c.put_io_name in
    (after_store a.out.now _ a.at _ _ _ refl p.ensures.0, p.ensures.1)
