use Rattle.source.proofs.TokenLaws.{Skipped}
use Rattle.source.proofs.tokens.token_start.Given as goal

abbrev pub invariant-loop-i : goal.invariant-loop-i
invariant-loop-i l = Skipped l.line l.p l.i
