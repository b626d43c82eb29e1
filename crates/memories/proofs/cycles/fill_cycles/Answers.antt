use Rattle.memories.proofs.LoadLaws.{front-cycles}
use Rattle.memories.proofs.cycles.fill_cycles.Goals as goal

pub returns : goal.returns
returns c =
    front-cycles c.args.buffer.now c.args.n c.requires.0 c.read_irq2.ensures c.counted.ensures
