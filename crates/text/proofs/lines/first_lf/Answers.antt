use Rattle.std.proofs.Common.{◌∙◌, arith}
use Rattle.text.proofs.LineLaws.{end_more}
use Rattle.text.proofs.lines.first_lf.Goals as goal

pub loop-at-preserved : goal.loop-at-preserved
loop-at-preserved c = let l = c.loop-at in end_more c.args.s.now l.at (omega arith) c.if-s-at-eq-LF.false ∙ l.invariant
