use Prim.Native.Nat.{◌+◌, ◌-◌}
use mathlib.Core.Path.{◌≡◌, ◌∙◌}
use native.Mathlib.Omega.{arith}
use Rattle.check_asm.proofs.BuiltLaws.{repeat_turn}
use Rattle.check_asm.proofs.built.repeat.Goals as goal

pub loop-preserved : goal.loop-preserved
loop-preserved c =
    let l = c.loop in
    let p = c.put_if_room-next in
    let less : c.args.times - (l.counter + 1) ≡ c.args.times - l.counter - 1 = omega arith in
    let turn = repeat_turn (record { bytes = l.text; end = l.next }) c.args.line.now _ (c.args.times - l.counter) (omega arith) p.ensures.line in
    (rw less (turn ∙ l.invariant.0), omega (arith, p.ensures.counts.0), p.auto.line ∙ l.invariant.2)
