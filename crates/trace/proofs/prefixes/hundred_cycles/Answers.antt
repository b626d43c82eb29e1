use Rattle.trace.proofs.PrefixLaws.{gives_hundred}
use Rattle.trace.proofs.prefixes.hundred_cycles.Goals as goal

pub invariant_of-result : goal.invariant_of-result
invariant_of-result c =
    let a = c.args in
    let p = c.requires in
    record { valid = λ x l h. gives_hundred a.digits a.n a.held a.more x p.some.0 p.counted.0 p.counted.1 p.fits p.hold l h }
