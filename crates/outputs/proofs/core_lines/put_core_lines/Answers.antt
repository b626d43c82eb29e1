use native.Mathlib.Omega.{arith}
use Rattle.outputs.proofs.RecordLaws.{core-put}
use Rattle.outputs.proofs.core_lines.put_core_lines.Goals as goal

pub returns : goal.returns
returns c =
    let a = c.args in
    let first = c.put_status_line-handler_at.ensures in
    let second = c.put_number_line-pc_at.ensures in
    let third = c.put_pc_line-age_at.ensures in
    let fourth = c.put_number_line-left_at.ensures in
    let fifth = c.put_drive_lines.ensures in
    let is-put = core-put a.core a.out.now _ _ _ _ _ _ _ _ _ _ first.0 first.1 (second.0, second.1) (third.0, third.1) (fourth.0, fourth.1) (fifth.0, fifth.1) in
    (is-put.0, is-put.1, omega (arith, first.2, second.2, third.2, fourth.2, fifth.2))
