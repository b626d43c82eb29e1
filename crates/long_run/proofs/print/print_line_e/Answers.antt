use mathlib.Core.Path.{sym}
use native.Mathlib.Omega.{arith}
use lib.Seq.{length-take-le}
use borrow.Author.Rules.{rules}
use Rattle.summary.proofs.LineLaws.{short_E}
use Rattle.long_run.proofs.print.print_line_e.Goals as goal

pub put_line_e-end-requires : goal.put_line_e-end-requires
put_line_e-end-requires c = let short = short_E c.args.status c.args.age (search rules) (search rules) in omega arith

pub slice_bounds-line-end : goal.slice_bounds-line-end
slice_bounds-line-end c = let short = short_E c.args.status c.args.age (search rules) (search rules) in let size = c.put_line_e-end.auto.out in omega arith

pub slice_bounds-write_all-end : goal.slice_bounds-write_all-end
slice_bounds-write_all-end c = let short = short_E c.args.status c.args.age (search rules) (search rules) in let size = c.put_line_e-end.auto.out in sym (length-take-le _ _ (omega arith))
