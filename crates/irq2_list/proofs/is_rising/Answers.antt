use mathlib.Core.Path.{◌≡◌}
use lib.Dec.{ltb}
use Rattle.std.proofs.Common.{rules}
use Rattle.std.proofs.lemmas.List.Sorted.{answers_always}
use Rattle.irq2_list.proofs.PlaceLaws.{rising-answer}
use Rattle.irq2_list.proofs.is_rising.Goals as goal

pub returns : goal.returns
returns c =
    rising-answer c.args.cycles.now _ (c.is_sorted_by.ensures.cases (λ x y. ltb x y) (answers_always _ (λ a r. r ≡ ltb a.0.now a.1.0.now) _ (λ f a r f' k. search rules)))
