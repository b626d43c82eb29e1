use Prim.Native.Nat.{◌+◌, ◌*◌}
use mathlib.Core.Path.{◌≡◌}
use lib.ListN.{drop}
use Rattle.text.specs.Questions.{accepted, first_bad}
use Rattle.text.specs.Lines.{lines}
use Rattle.files.specs.MemoryFile.{word_questions, lines_outcome}
use Rattle.files.proofs.check.check_words.Given as goal

abbrev pub invariant-loop-i : goal.invariant-loop-i
invariant-loop-i l = first_bad (word_questions l.k l.room) l.i (lines (drop (l.i * (l.k + 1)) l.text)) (accepted 0) ≡ lines_outcome l.k l.room l.text
