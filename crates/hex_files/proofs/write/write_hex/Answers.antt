use Rattle.hex_files.proofs.WriteLaws.{not_so_many, too_long, all-written}
use Rattle.hex_files.proofs.write.write_hex.Goals as goal

pub returns-then-memory-words : goal.returns-then-memory-words
returns-then-memory-words c = let a = c.args in not_so_many a.memory.now a.words a.text.now c.if-memory-words.true

pub returns-then-text-words : goal.returns-then-text-words
returns-then-text-words c = let a = c.args in too_long a.memory.now a.words a.text.now c.if-memory-words.false c.requires.fours c.if-text-words.true

pub returns : goal.returns
returns c = let a = c.args in all-written a.memory.now a.words a.text.now c.if-memory-words.false c.requires.fours c.if-text-words.false _ _ c.put_hex_text.ensures
