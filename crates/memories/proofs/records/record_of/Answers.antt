use lib.ListN.{take}
use Rattle.memories.proofs.RecordLaws.{record_read, front-loaded}
use Rattle.memories.proofs.records.record_of.Goals as goal

pub returns-in-Ok : goal.returns-in-Ok
returns-in-Ok c = front-loaded c.args.buffer.now c.args.n c.requires.0 (record_read (take c.args.n c.args.buffer.now) _ c.in-Ok.ensures)
