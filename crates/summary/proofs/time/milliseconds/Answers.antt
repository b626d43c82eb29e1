use Rattle.summary.proofs.TimeLaws.{by_parts}
use Rattle.summary.proofs.time.milliseconds.Goals as goal

pub returns : goal.returns
returns c = by_parts c.args.age
