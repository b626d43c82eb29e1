use Rattle.text.proofs.TableLaws.{Filled}
use Rattle.text.proofs.HexWordLaws.{pair}
use Rattle.text.proofs.hex_words.fill_pairs.Given as goal

abbrev pub invariant-loop-n : goal.invariant-loop-n
invariant-loop-n l = Filled pair 1024 256 l.words l.n
