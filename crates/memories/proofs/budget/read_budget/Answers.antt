use Rattle.memories.proofs.BudgetLaws.{budget_read}
use Rattle.memories.proofs.budget.read_budget.Goals as goal

pub returns-else-is_none : goal.returns-else-is_none
returns-else-is_none c = budget_read _ c.budget_of-budget.ensures
