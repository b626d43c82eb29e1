use mathlib.Core.Path.{◌∙◌}
use Rattle.check_asm.proofs.AllLaws.{same_is}
use Rattle.check_asm.proofs.memories.are_same.Goals as goal

pub returns : goal.returns
returns c = c.eq.ensures ∙ same_is _ _
