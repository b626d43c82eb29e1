use Rattle.symbols.proofs.FindLaws.{Left}
use Rattle.symbols.proofs.find.Given as goal

abbrev pub invariant-loop-link : goal.invariant-loop-link
invariant-loop-link l = Left l.source l.table l.count l.below l.t l.link

abbrev pub decreases-loop-link : goal.decreases-loop-link
decreases-loop-link l = l.link
