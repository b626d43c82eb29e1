use mathlib.Core.Path.{refl, ◌∙◌}
use native.Mathlib.Omega.{arith}
use Rattle.outputs.specs.RecordText.{saved_io, io_line}
use Rattle.outputs.proofs.PieceLaws.{none_yet, next-line}
use Rattle.outputs.proofs.register_lines.put_io_lines.Goals as goal

pub loop-i-init : goal.loop-i-init
loop-i-init c = let a = c.args in (none_yet (io_line a.io.now) saved_io a.out.now a.at, refl, omega arith)

pub loop-i-preserved : goal.loop-i-preserved
loop-i-preserved c =
    let a = c.args in
    let l = c.loop-i in
    let p = c.put_io_line-end in (
      next-line (io_line a.io.now) saved_io a.out.now a.at l.i _ l.out _ l.end _ (omega arith) c.saved_io-n.ensures.0 l.invariant.0 (p.ensures.0, p.ensures.1),
      p.auto.out ∙ l.invariant.1,
      omega (arith, p.ensures.2),
    )
