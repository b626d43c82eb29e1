use Rattle.std.proofs.Common.{rules}
use Rattle.memories.proofs.load.load.Goals as goal

pub returns : goal.returns
returns g c =
    λ is_right reader. record {
      buffer = c.read_front.new.buffer;
      n = c.in_ok-n.n;
      long = search rules;
      within = c.in_ok-n.ensures.0;
      read = c.fill.ensures is_right reader;
    }
