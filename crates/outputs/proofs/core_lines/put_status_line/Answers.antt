use native.Mathlib.Omega.{arith}
use Rattle.outputs.proofs.PieceLaws.{at_front, ended}
use Rattle.outputs.specs.RecordText.{status_line}
use Rattle.outputs.proofs.core_lines.put_status_line.Goals as goal

pub returns : goal.returns
unfolding status_line
returns c =
    let d = c.args.out.now in
    let e = c.put_status-end.ensures in
    let is-put = ended d _ 0 _ _ (e.0, e.1) in
    (is-put.0, at_front d _ _ _ is-put, omega (arith, e.2))
