use Rattle.console.proofs.AppendLaws.{pieces_more}
use Rattle.check_asm.proofs.built.build.Goals as goal

pub returns : goal.returns
returns c = pieces_more (pieces_more c.put_if_room-lines_at.ensures c.repeat-end_at.ensures) c.put_if_room.ensures
