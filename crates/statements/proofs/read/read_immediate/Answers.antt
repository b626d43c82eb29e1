use mathlib.Core.Path.{◌∙◌, ap}
use mathlib.Core.Bool.{not}
use Rattle.statements.proofs.ReadLaws.{number_read}
use Rattle.statements.proofs.read.read_immediate.Goals as goal

pub returns : goal.returns
returns c = number_read c.read_number-n.result c.is_within.result c.modulo.result c.read_number-n.ensures (c.is_none.ensures ∙ ap not c.if-is_none.false)
    c.is_within.ensures c.modulo.ensures.below c.modulo.ensures.value
