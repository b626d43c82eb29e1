use mathlib.Core.Path.{◌∙◌}
use mathlib.Core.Logic.{⊎_elim}
use native.Mathlib.Omega.{arith}
use Rattle.memories.proofs.BudgetLaws.{budget_empty, budget_long, budget_is}
use Rattle.memories.proofs.budget.budget_of.Goals as goal

pub returns-then-word-eq0 : goal.returns-then-word-eq0
returns-then-word-eq0 c = ⊎_elim (budget_empty _) (λ long. budget_long _ long.1) c.then-word-eq0.either

pub returns : goal.returns
returns c = c.read_digits.ensures ∙ budget_is _ (omega (arith, c.if-word-eq0.false)) c.if-word-gt-DIGITS.false
