use Rattle.trace.proofs.PrefixLaws.{gives_one, gives_two}
use Rattle.trace.proofs.prefixes.prefix_of.Goals as goal

pub invariant_of-result : goal.invariant_of-result
invariant_of-result c = record { valid = λ x l h. gives_one x h }

pub invariant_of-result-then-c-lt100 : goal.invariant_of-result-then-c-lt100
invariant_of-result-then-c-lt100 c = record { valid = λ x l h. gives_two x l h }
