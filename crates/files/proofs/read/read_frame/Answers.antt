use borrow.Author.Tests.{eq-eqb, ne_eqb}
use Rattle.files.proofs.AnswerLaws.{read_wrong_length, read_asked}
use Rattle.files.proofs.read.read_frame.Goals as goal

pub returns-then-frame-ne-FRAME_BYTES : goal.returns-then-frame-ne-FRAME_BYTES
returns-then-frame-ne-FRAME_BYTES c = read_wrong_length (ne_eqb _ _ c.if-frame-ne-FRAME_BYTES.true)

pub returns : goal.returns
returns c = read_asked (eq-eqb _ _ c.if-frame-ne-FRAME_BYTES.false) c.read_words.ensures
