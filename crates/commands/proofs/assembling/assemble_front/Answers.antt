use Rattle.commands.proofs.AssembleLaws.{front-assembled}
use Rattle.commands.proofs.assembling.assemble_front.Goals as goal

pub returns : goal.returns
returns c =
    front-assembled c.args.buffer.now c.args.n c.requires.0 c.assemble.ensures c.done.ensures
