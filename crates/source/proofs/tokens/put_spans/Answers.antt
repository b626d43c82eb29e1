use native.Mathlib.Omega.{arith}
use Rattle.source.proofs.SplitLaws.{split_whole, split_full, one_laid}
use Rattle.source.proofs.tokens.put_spans.Goals as goal

pub loop-k-preserved : goal.loop-k-preserved
loop-k-preserved c = one_laid c.loop-k.invariant c.in-Some.s c.in-Some.ensures (omega arith)

pub returns-in_default-clause-split : goal.returns-in_default-clause-split
returns-in_default-clause-split c = split_whole c.loop-k.invariant (omega arith) c.in_default.ensures

pub returns-clause-split : goal.returns-clause-split
returns-clause-split c = split_full c.loop-k.invariant (omega arith)
