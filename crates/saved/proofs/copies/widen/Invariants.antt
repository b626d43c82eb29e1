use Rattle.text.proofs.CopyLaws.{Copying}
use Rattle.saved.proofs.copies.widen.Given as goal

abbrev pub invariant-loop-i : goal.invariant-loop-i
invariant-loop-i l = Copying l.from l.to l.i
