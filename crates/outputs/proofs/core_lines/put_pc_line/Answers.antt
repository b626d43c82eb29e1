use native.Mathlib.Omega.{arith}
use Rattle.outputs.specs.RecordText.{pc_line}
use Rattle.outputs.proofs.PieceLaws.{ended, placed}
use Rattle.outputs.proofs.core_lines.put_pc_line.Goals as goal

pub returns : goal.returns
unfolding pc_line
returns c =
    let a = c.args in
    let first = c.put_bytes-digits_at.ensures in
    let second = c.put_pc-end.ensures in
    let is-put = ended a.out.now _ a.at _ _ (placed _ a.pc a.at _ _ a.out.now _ _ first second.0 second.1) in
    (is-put.0, is-put.1, omega (arith, first.1, second.1))
