use mathlib.Core.Path.{sym, ◌∙◌}
use Rattle.files.proofs.AnswerLaws.{read_wrong_length, read_asked}
use Rattle.files.proofs.read.read_disk.Goals as goal

pub returns-then-not-is_part : goal.returns-then-not-is_part
returns-then-not-is_part c = read_wrong_length (sym c.is_part.ensures ∙ c.if-not-is_part.true)

pub returns : goal.returns
returns c = read_asked (sym c.is_part.ensures ∙ c.if-not-is_part.false) c.read_words.ensures
