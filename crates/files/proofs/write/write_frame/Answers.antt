use borrow.Author.Tests.{ne_eqb}
use Rattle.files.proofs.AnswerLaws.{wrong_length}
use Rattle.files.proofs.write.write_frame.Goals as goal

pub returns-then-frame-ne-FRAME_BYTES : goal.returns-then-frame-ne-FRAME_BYTES
returns-then-frame-ne-FRAME_BYTES c = wrong_length (ne_eqb _ _ c.if-frame-ne-FRAME_BYTES.true)
