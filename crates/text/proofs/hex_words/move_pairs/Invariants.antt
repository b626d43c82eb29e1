use Rattle.text.proofs.TableLaws.{Filled}
use Rattle.text.proofs.HexWordLaws.{entry}
use Rattle.text.proofs.hex_words.move_pairs.Given as goal

abbrev pub invariant-loop-n : goal.invariant-loop-n
invariant-loop-n l = Filled entry 1024 1024 l.words l.n
