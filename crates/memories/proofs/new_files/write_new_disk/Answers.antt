use Rattle.memories.proofs.NewFileLaws.{text-written}
use Rattle.memories.proofs.new_files.write_new_disk.Goals as goal

pub returns : goal.returns
returns c = λ wrong. text-written c.write_disk.ensures c.write_new_text.ensures (rw wrong)
