use Rattle.std.proofs.Common.{◌∙◌}
use Rattle.text.proofs.SameLaws.{same_turned}
use Rattle.text.proofs.same.begins_with.Goals as goal

pub returns : goal.returns
returns c = c.starts_with.ensures.value ∙ same_turned _ c.args.front.now
