use native.Mathlib.Omega.{arith}
use Rattle.outputs.proofs.LogLaws.{taking_more, taking_all}
use Rattle.outputs.proofs.log.split_log.Goals as goal

pub loop-from-preserved : goal.loop-from-preserved
loop-from-preserved c =
    let l = c.loop-from in
    let inside = c.loop-from-test.true in
    let end = c.line_end-end.ensures in
    let t = c.put_taken-t in
    let h = c.put_taken-h in
    let k = c.put_taken-l in
    let d = c.put_taken-d in (
      taking_more inside end.0 end.1 l.invariant.0 t.ensures.0 t.ensures.1 t.ensures.2 t.auto.out,
      taking_more inside end.0 end.1 l.invariant.1 h.ensures.0 h.ensures.1 h.ensures.2 h.auto.out,
      taking_more inside end.0 end.1 l.invariant.2 k.ensures.0 k.ensures.1 k.ensures.2 k.auto.out,
      taking_more inside end.0 end.1 l.invariant.3 d.ensures.0 d.ensures.1 d.ensures.2 d.auto.out,
      omega (arith, end),
    )

pub returns : goal.returns
returns c =
    let l = c.loop-from in
    let p = c.requires in
    (taking_all c.loop-from-test.false p.0 l.invariant.0, taking_all c.loop-from-test.false p.1 l.invariant.1, taking_all c.loop-from-test.false p.2 l.invariant.2, taking_all c.loop-from-test.false p.3 l.invariant.3)
