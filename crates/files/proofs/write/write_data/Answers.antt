use borrow.Author.Tests.{ne_eqb}
use Rattle.files.proofs.AnswerLaws.{wrong_length}
use Rattle.files.proofs.write.write_data.Goals as goal

pub returns-then-memory-ne-DATA_WORDS : goal.returns-then-memory-ne-DATA_WORDS
returns-then-memory-ne-DATA_WORDS c = wrong_length (ne_eqb _ _ c.if-memory-ne-DATA_WORDS.true)
