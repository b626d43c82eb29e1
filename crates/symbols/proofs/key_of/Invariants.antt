use Rattle.symbols.proofs.KeyLaws.{Keyed}
use Rattle.symbols.proofs.key_of.Given as goal

abbrev pub invariant-loop-b : goal.invariant-loop-b
invariant-loop-b l = Keyed l.t l.b-index l.key
