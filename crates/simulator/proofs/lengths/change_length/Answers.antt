use mathlib.Core.Path.{refl}
use native.Mathlib.Omega.{arith}
use borrow.Author.Tests.{ne_eqb}
use Rattle.machine.specs.Log.{change_lines}
use Rattle.simulator.proofs.lengths.change_length.Goals as goal

pub returns-in-9 : goal.returns-in-9
unfolding change_lines
returns-in-9 c = rw c.in-9.is (c.length_if_new.ensures _)

pub returns-in-10 : goal.returns-in-10
unfolding change_lines
returns-in-10 c = rw c.in-10.is (c.length_if_new-in-10.ensures _)

pub returns-in_default : goal.returns-in_default
unfolding change_lines
returns-in_default c =
    let n = c.args.n in
    rw (ne_eqb n 9 (λ e. omega arith), ne_eqb n 10 (λ e. omega arith)) refl
