use mathlib.Core.Path.{◌∙◌, ap}
use native.Mathlib.Omega.{arith}
use Rattle.lines.specs.Line.{form_of}
use Rattle.commands.proofs.CountLaws.{one_at_most, one-counted, all-counted}
use Rattle.commands.proofs.instructions.count_instructions.Goals as goal

pub loop-p-preserved : goal.loop-p-preserved
loop-p-preserved c =
    let l = c.loop-p in
    let e = c.line_end-e in
    let f = c.line_form-line in
    let few = one_at_most f.result.form _ c.codes-n.ensures in (
      one-counted _ l.p e.result c.loop-p-test.true e.ensures.0 f.result.form (f.result.formed.is ∙ ap form_of f.ensures) _ c.codes-n.ensures l.n l.invariant.0,
      omega (arith, e.ensures.1),
      omega (arith, few, l.invariant.2, e.ensures.0),
    )

pub returns : goal.returns
returns c = all-counted _ c.loop-p.p _ c.loop-p-test.false c.loop-p.invariant.0
