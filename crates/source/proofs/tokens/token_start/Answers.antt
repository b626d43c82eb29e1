use native.Mathlib.Omega.{arith}
use Rattle.source.proofs.TokenLaws.{one_skipped, starts_in_comment, starts-here, starts_nowhere}
use Rattle.source.proofs.tokens.token_start.Goals as goal

pub returns-then-line-i-eq35 : goal.returns-then-line-i-eq35
returns-then-line-i-eq35 c = starts_in_comment c.loop-i.invariant (omega arith) c.if-line-i-eq35.true

pub returns-then-not-is_blank : goal.returns-then-not-is_blank
returns-then-not-is_blank c = starts-here c.loop-i.invariant (omega arith) c.is_blank.result c.is_blank.ensures c.if-not-is_blank.true c.if-line-i-eq35.false

pub loop-i-preserved : goal.loop-i-preserved
loop-i-preserved c = one_skipped c.loop-i.invariant (omega arith) c.is_blank.result c.is_blank.ensures c.if-not-is_blank.false

pub returns : goal.returns
returns c = starts_nowhere c.loop-i.invariant (omega arith)
