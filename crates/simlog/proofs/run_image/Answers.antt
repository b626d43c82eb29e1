use mathlib.Core.Path.{refl}
use Rattle.files.specs.Irq2File.{rising}
use Rattle.simlog.proofs.run_image.Goals as goal

-- The empty list rises.
pub run_budget-requires : goal.run_budget-requires
unfolding rising
run_budget-requires c = refl
