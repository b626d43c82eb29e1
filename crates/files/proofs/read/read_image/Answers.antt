use borrow.Author.Tests.{eq-eqb, ne_eqb}
use Rattle.files.proofs.AnswerLaws.{read_wrong_length, read_asked}
use Rattle.files.proofs.read.read_image.Goals as goal

pub returns-then-image-ne-IMAGE_WORDS : goal.returns-then-image-ne-IMAGE_WORDS
returns-then-image-ne-IMAGE_WORDS c = read_wrong_length (ne_eqb _ _ c.if-image-ne-IMAGE_WORDS.true)

pub returns : goal.returns
returns c = read_asked (eq-eqb _ _ c.if-image-ne-IMAGE_WORDS.false) c.read_words.ensures
