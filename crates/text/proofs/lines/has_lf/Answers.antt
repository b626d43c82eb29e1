use Rattle.std.proofs.Common.{◌∙◌, arith}
use Rattle.text.proofs.LineLaws.{lf_more, lf_past}
use Rattle.text.proofs.lines.has_lf.Goals as goal

pub loop-b-preserved : goal.loop-b-preserved
loop-b-preserved c = let l = c.loop-b in lf_more c.args.part.now l.b-index l.found (omega arith) ∙ l.invariant

pub returns : goal.returns
returns c = let l = c.loop-b in lf_past c.args.part.now l.b-index l.found (omega arith) ∙ l.invariant
