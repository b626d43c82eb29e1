use Rattle.std.proofs.Common.{◌/◌, arith}
use Rattle.trace.proofs.PrefixLaws.{pair_of_two, digit-above}
use Rattle.trace.proofs.prefixes.last_two.Goals as goal

pub overflow_sub-result : goal.overflow_sub-result
overflow_sub-result c =
    let n = c.args.n in
    omega (arith, pair_of_two n c.requires.0 _ c.pair.ensures, digit-above (n / 10) (omega (arith, c.requires.0)))

pub returns : goal.returns
returns c = rw (pair_of_two c.args.n c.requires.0 _ c.pair.ensures)
