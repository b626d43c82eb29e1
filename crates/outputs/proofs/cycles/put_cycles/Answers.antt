use native.Mathlib.Omega.{arith}
use Rattle.outputs.proofs.PieceLaws.{counted, at_front}
use Rattle.outputs.specs.Cycles.{cycles_text}
use Rattle.outputs.proofs.cycles.put_cycles.Goals as goal

pub returns : goal.returns
unfolding cycles_text
returns c =
    let d = c.args.out.now in
    let e = c.put_number_line.ensures in
    (e.0, at_front d _ _ _ (e.0, e.1), omega (arith, e.2), counted d _ 0 _ _ e.0 (omega (arith, e.2)))
