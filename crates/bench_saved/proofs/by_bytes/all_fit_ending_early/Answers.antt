use mathlib.Core.Path.{sym}
use Rattle.bitpack.proofs.PackLaws.{fit_other}
use Rattle.bench_saved.proofs.by_bytes.all_fit_ending_early.Goals as goal

pub returns-then-widths-values : goal.returns-then-widths-values
returns-then-widths-values c = sym (fit_other c.args.widths.now c.args.values.now c.if-widths-values.true)
