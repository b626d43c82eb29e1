use native.Mathlib.Omega.{arith}
use Rattle.outputs.proofs.PieceLaws.{counted}
use Rattle.outputs.proofs.StopLaws.{reason-put}
use Rattle.outputs.proofs.reason.put_reason.Goals as goal

pub returns : goal.returns
returns c =
    let a = c.args in
    let first = c.put_bytes-pc_at.ensures in
    let second = c.put_pc-colon_at.ensures in
    let third = c.put_bytes-cause_at.ensures in
    let fourth = c.put_cause-end.ensures in
    let is-put = reason-put a.core a.at _ _ _ _ a.out.now _ _ _ _ first second.0 second.1 third (fourth.0, fourth.1) in (
      is-put.0,
      is-put.1,
      omega (arith, first.1, second.1, third.1, fourth.2),
      counted a.out.now _ a.at _ _ is-put.0 (omega (arith, first.1, second.1, third.1, fourth.2)),
    )
