use Rattle.files.proofs.PutLaws.{Putting}
use Rattle.files.proofs.put.put_words.Given as goal

abbrev pub invariant-loop-word : goal.invariant-loop-word
invariant-loop-word g l = Putting l.k (g.C.Cell.numbers l.words) l.initial.out l.at l.out l.p l.word-index
