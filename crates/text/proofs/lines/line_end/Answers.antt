use mathlib.Core.Path.{◌∙◌}
use native.Mathlib.Omega.{arith}
use Rattle.text.proofs.LineLaws.{end-at}
use Rattle.text.proofs.lines.line_end.Goals as goal

pub returns-then-at-near : goal.returns-then-at-near
returns-then-at-near c = let f = c.first_lf-at in
    let inside = f.ensures.2 c.if-at-near.true in
    (end-at c.args.s.now f.result (omega arith) (λ h. inside) ∙ f.ensures.0, omega arith)

pub returns : goal.returns
returns c = let e = c.first_lf.ensures in
    (end-at c.args.s.now c.first_lf.result e.1 e.2 ∙ e.0 ∙ c.after_blocks.ensures.0 ∙ c.first_lf-at.ensures.0, e.1)
