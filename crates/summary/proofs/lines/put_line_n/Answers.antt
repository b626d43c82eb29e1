use native.Mathlib.Omega.{arith}
use lib.ListN.{length-set}
use Rattle.summary.proofs.LineLaws.{length-N, line_n_put}
use Rattle.summary.proofs.lines.put_line_n.Goals as goal

pub bounds-out-at : goal.bounds-out-at
bounds-out-at c = let room = rw length-N at c.requires in omega arith

pub put_number-line_at-requires : goal.put_number-line_at-requires
put_number-line_at-requires c = let room = rw length-N at c.requires in simp length-set (omega arith)

pub put_last_number-requires : goal.put_last_number-requires
put_last_number-requires c =
    let room = rw length-N at c.requires in
    let size = simp length-set at c.put_number-line_at.auto.out in
    omega arith

pub returns : goal.returns
returns c =
    let a = c.args in
    let number = c.put_number-line_at.ensures in
    let line = c.put_last_number.ensures in
    (line_n_put a.number a.line a.at _ a.out.now _ _ number.1 number.0 line.0, rw length-N (omega arith))
