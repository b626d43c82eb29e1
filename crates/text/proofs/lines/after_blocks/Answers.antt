use Prim.Native.Nat.{◌+◌, ◌-◌, ◌≤◌}
use mathlib.Core.Bool.{false}
use mathlib.Core.Path.{sym, ap, ◌≡◌, ◌∙◌}
use native.Mathlib.Omega.{arith}
use lib.ListN.{take, length, drop}
use Rattle.text.specs.Lines.{has_lf}
use Rattle.text.proofs.LineLaws.{end_after}
use Rattle.text.proofs.lines.after_blocks.Goals as goal

pub loop-at-preserved : goal.loop-at-preserved
loop-at-preserved c = let l = c.loop-at in
    let s = c.args.s.now in
    let size : l.at + 256 - l.at ≡ 256 = omega arith in
    let none : has_lf (take 256 (drop l.at s)) ≡ false = ap (λ k. has_lf (take k (drop l.at s))) (sym size) ∙ sym c.has_lf.ensures ∙ c.if-has_lf.false in
    let room : l.at + 256 ≤ length s = omega arith in
    (end_after s l.at 256 room none ∙ l.invariant.0, room)
