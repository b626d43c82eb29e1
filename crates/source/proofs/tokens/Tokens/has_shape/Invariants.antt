use Rattle.source.specs.Tokens.{tokens, texts}
use Rattle.source.proofs.ShapeLaws.{Fitted}
use Rattle.source.proofs.tokens.Tokens.has_shape.Given as goal

abbrev pub invariant-loop-k : goal.invariant-loop-k
invariant-loop-k l = Fitted l.directive l.shape (texts (tokens l.self.line.now)) l.k
