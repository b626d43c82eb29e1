use borrow.Author.Tests.{eq-eqb, ne_eqb}
use Rattle.files.proofs.AnswerLaws.{read_wrong_length, read_asked}
use Rattle.files.proofs.read.read_data.Goals as goal

pub returns-then-memory-ne-DATA_WORDS : goal.returns-then-memory-ne-DATA_WORDS
returns-then-memory-ne-DATA_WORDS c = read_wrong_length (ne_eqb _ _ c.if-memory-ne-DATA_WORDS.true)

pub returns : goal.returns
returns c = read_asked (eq-eqb _ _ c.if-memory-ne-DATA_WORDS.false) c.read_words.ensures
