use Rattle.text.proofs.WriteLaws.{Writing}
use Rattle.text.proofs.digits.PairTable.put_hex.Given as goal

abbrev pub invariant-loop-left : goal.invariant-loop-left
invariant-loop-left l = Writing 16 l.initial.out l.at l.k l.v l.out l.left l.rest

abbrev pub decreases-loop-left : goal.decreases-loop-left
decreases-loop-left l = l.left
