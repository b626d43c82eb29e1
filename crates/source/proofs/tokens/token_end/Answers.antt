use mathlib.Core.Path.{◌∙◌}
use native.Mathlib.Omega.{arith}
use Rattle.source.proofs.TokenLaws.{one-within, ends-here, ends_with_line, joined_pair}
use Rattle.source.proofs.tokens.token_end.Goals as goal

pub returns-then-not-is_joined : goal.returns-then-not-is_joined
returns-then-not-is_joined c = ends-here c.loop-i.invariant c.is_joined.result (c.is_joined.ensures ∙ joined_pair c.args.line.now c.loop-i.i (omega arith)) c.if-not-is_joined.true

pub loop-i-preserved : goal.loop-i-preserved
loop-i-preserved c = one-within c.loop-i.invariant c.is_joined.result (c.is_joined.ensures ∙ joined_pair c.args.line.now c.loop-i.i (omega arith)) c.if-not-is_joined.false

pub returns : goal.returns
returns c = ends_with_line c.loop-i.invariant (omega arith)
