use Rattle.source.proofs.SplitLaws.{Laid}
use Rattle.source.proofs.tokens.put_spans.Given as goal

abbrev pub invariant-loop-k : goal.invariant-loop-k
invariant-loop-k l = Laid l.line l.spans l.p l.k
