use Rattle.memories.proofs.NewFileLaws.{text-written}
use Rattle.memories.proofs.new_files.write_new_data.Goals as goal

pub returns : goal.returns
returns c = text-written c.write_data.ensures c.write_new_text.ensures
