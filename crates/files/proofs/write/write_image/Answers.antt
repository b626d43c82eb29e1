use borrow.Author.Tests.{ne_eqb}
use Rattle.files.proofs.AnswerLaws.{wrong_length}
use Rattle.files.proofs.write.write_image.Goals as goal

pub returns-then-image-ne-IMAGE_WORDS : goal.returns-then-image-ne-IMAGE_WORDS
returns-then-image-ne-IMAGE_WORDS c = wrong_length (ne_eqb _ _ c.if-image-ne-IMAGE_WORDS.true)
