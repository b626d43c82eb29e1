use mathlib.Core.Path.{sym}
use native.Mathlib.Omega.{arith}
use lib.Seq.{length-take-le}
use borrow.Author.Rules.{rules}
use Rattle.summary.proofs.LineLaws.{short_N}
use Rattle.long_run.proofs.print.print_line_n.Goals as goal

pub put_line_n-end-requires : goal.put_line_n-end-requires
put_line_n-end-requires c = let short = short_N c.args.number c.args.place (search rules) (search rules) in omega arith

pub slice_bounds-line-end : goal.slice_bounds-line-end
slice_bounds-line-end c = let short = short_N c.args.number c.args.place (search rules) (search rules) in let size = c.put_line_n-end.auto.out in omega arith

pub slice_bounds-write_all-end : goal.slice_bounds-write_all-end
slice_bounds-write_all-end c = let short = short_N c.args.number c.args.place (search rules) (search rules) in let size = c.put_line_n-end.auto.out in sym (length-take-le _ _ (omega arith))
