use Rattle.std.proofs.Common.{◌∙◌}
use Rattle.text.proofs.SameLaws.{same-is}
use Rattle.text.proofs.same.are_same.Goals as goal

pub returns : goal.returns
returns c = c.eq.ensures ∙ same-is c.args.t.now c.args.u.now
