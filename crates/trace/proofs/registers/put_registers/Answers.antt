use Rattle.std.proofs.Common.{◌∙◌, arith}
use Rattle.trace.proofs.RegisterTextLaws.{put_turn, put-end, put_whole}
use Rattle.trace.proofs.registers.put_registers.Goals as goal

pub loop-n-preserved : goal.loop-n-preserved
loop-n-preserved c =
    let l = c.loop-n in
    let w = c.put_word-at in
    (put_turn c.args.regs.now l.n l.text _ l.at _ (omega arith) w.ensures.0 w.ensures.1 ∙ l.invariant.0, w.auto.out ∙ l.invariant.1, omega arith)

pub returns : goal.returns
returns c =
    let l = c.loop-n in
    let regs = c.args.regs.now in
    put-end regs l.n l.text l.at 117 (omega arith) (omega arith) ∙ l.invariant.0 ∙ put_whole regs c.args.text.now c.requires.1 c.requires.0
