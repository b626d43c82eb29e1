use mathlib.Core.Path.{ap}
use native.Mathlib.Omega.{arith}
use Rattle.text.specs.declared.Outcome.{Outcome}
use Rattle.check_asm.proofs.TrialLaws.{listed_into}
use Rattle.check_asm.proofs.listing.list_words.Goals as goal

pub returns : goal.returns
returns c = listed_into c.list.ensures (omega (arith, c.list.auto.text)) (ap (λ (t : Outcome). t.count) c.counted.ensures)
