use Rattle.source.proofs.TokenLaws.{Within}
use Rattle.source.proofs.tokens.token_end.Given as goal

abbrev pub invariant-loop-i : goal.invariant-loop-i
invariant-loop-i l = Within l.line l.a l.i
