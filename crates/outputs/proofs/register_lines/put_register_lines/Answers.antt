use Prim.Native.Nat.{◌+◌, ◌-◌}
use mathlib.Core.Path.{◌≡◌, refl, ◌∙◌}
use native.Mathlib.Omega.{arith}
use Rattle.outputs.specs.RecordText.{saved_registers, register_line}
use Rattle.outputs.proofs.PieceLaws.{none_yet, next-line}
use Rattle.outputs.proofs.RegisterLaws.{register-number}
use Rattle.outputs.proofs.register_lines.put_register_lines.Goals as goal

pub loop-i-init : goal.loop-i-init
loop-i-init c = let a = c.args in (none_yet (register_line a.regs.now) saved_registers a.out.now a.at, refl, omega arith)

pub loop-i-preserved : goal.loop-i-preserved
loop-i-preserved c =
    let a = c.args in
    let l = c.loop-i in
    let p = c.put_register_line-end in
    let place : 3 + l.i - 3 ≡ l.i = omega arith in (
      next-line (register_line a.regs.now) saved_registers a.out.now a.at l.i (3 + l.i) l.out _ l.end _ (omega arith) (register-number l.i (omega arith)) l.invariant.0 (rw place (p.ensures.0, p.ensures.1)),
      p.auto.out ∙ l.invariant.1,
      omega (arith, p.ensures.2),
    )
