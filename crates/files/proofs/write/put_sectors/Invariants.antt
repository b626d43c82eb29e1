use Rattle.files.proofs.PutLaws.{PuttingSectors}
use Rattle.files.proofs.write.put_sectors.Given as goal

abbrev pub invariant-loop-s : goal.invariant-loop-s
invariant-loop-s l = PuttingSectors l.disk l.first l.sectors l.initial.text l.text l.at l.s
