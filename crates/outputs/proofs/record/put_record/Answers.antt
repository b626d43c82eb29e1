use native.Mathlib.Omega.{arith}
use Rattle.outputs.proofs.PieceLaws.{counted}
use Rattle.outputs.proofs.RecordLaws.{record_put}
use Rattle.outputs.proofs.record.put_record.Goals as goal

pub returns : goal.returns
returns c =
    let a = c.args in
    let first = c.put_core_lines-registers_at.ensures in
    let second = c.put_register_lines-io_at.ensures in
    let third = c.put_io_lines.ensures in
    let is-put = record_put a.r a.out.now _ _ _ _ _ _ first.0 first.1 (second.0, second.1) (third.0, third.1) in (
      is-put.0,
      is-put.1,
      omega (arith, first.2, second.2, third.2),
      counted a.out.now _ 0 _ _ is-put.0 (omega (arith, first.2, second.2, third.2)),
    )
