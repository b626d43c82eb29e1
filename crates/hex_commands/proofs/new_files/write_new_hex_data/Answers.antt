use Rattle.memories.proofs.NewFileLaws.{text-written}
use Rattle.hex_commands.proofs.new_files.write_new_hex_data.Goals as goal

pub returns : goal.returns
returns c = text-written c.write_hex_data.ensures c.write_new_text.ensures
