use mathlib.Core.Path.{sym}
use native.Mathlib.Omega.{arith}
use borrow.Author.Tests.{eq-eqb}
use Rattle.text.proofs.PutLaws.{put_nil}
use Rattle.simulator.proofs.io_lines.put_if_new.Goals as goal

pub returns-then-x-before : goal.returns-then-x-before
returns-then-x-before c = rw (eq-eqb _ _ c.if-x-before.true) (sym (put_nil _ _), omega arith)
