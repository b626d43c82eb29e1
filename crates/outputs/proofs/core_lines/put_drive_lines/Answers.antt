use native.Mathlib.Omega.{arith}
use Rattle.outputs.proofs.RecordLaws.{drive-put}
use Rattle.outputs.proofs.core_lines.put_drive_lines.Goals as goal

pub returns : goal.returns
returns c =
    let a = c.args in
    let first = c.put_number_line-sector_at.ensures in
    let second = c.put_number_line-buffer_at.ensures in
    let third = c.put_number_line.ensures in
    let is-put = drive-put a.d a.out.now _ _ _ a.at _ _ _ (first.0, first.1) (second.0, second.1) (third.0, third.1) in
    (is-put.0, is-put.1, omega (arith, first.2, second.2, third.2))
