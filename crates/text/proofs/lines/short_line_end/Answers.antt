use mathlib.Core.Path.{◌∙◌}
use Rattle.text.proofs.LineLaws.{end-at}
use Rattle.text.proofs.lines.short_line_end.Goals as goal

pub returns : goal.returns
returns c = let e = c.first_lf.ensures in
    (end-at c.args.s.now c.first_lf.result e.1 e.2 ∙ e.0, e.1)
