use mathlib.Core.Path.{sym}
use native.Mathlib.Omega.{arith}
use borrow.Author.Tests.{ne_eqb}
use Rattle.text.proofs.PutLaws.{put_nil}
use Rattle.machine.specs.Log.{change_lines}
use Rattle.simulator.proofs.io_lines.put_change_line.Goals as goal

pub put_if_new-requires : goal.put_if_new-requires
unfolding change_lines
put_if_new-requires c = rw c.in-9.is at c.requires

pub put_if_new-requires-in-10 : goal.put_if_new-requires-in-10
unfolding change_lines
put_if_new-requires-in-10 c = rw c.in-10.is at c.requires

pub returns-in-9 : goal.returns-in-9
unfolding change_lines
returns-in-9 c = rw c.in-9.is c.put_if_new.ensures

pub returns-in-10 : goal.returns-in-10
unfolding change_lines
returns-in-10 c = rw c.in-10.is c.put_if_new-in-10.ensures

pub returns-in_default : goal.returns-in_default
unfolding change_lines
returns-in_default c =
    let n = c.args.n in
    rw (ne_eqb n 9 (λ e. omega arith), ne_eqb n 10 (λ e. omega arith)) (sym (put_nil _ _), omega arith)
