use Rattle.memories.proofs.NewFileLaws.{text-written}
use Rattle.memories.proofs.new_files.write_new_image.Goals as goal

pub returns : goal.returns
returns c = text-written c.write_image.ensures c.write_new_text.ensures
