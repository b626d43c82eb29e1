use Rattle.std.proofs.Common.{◌∙◌, ◌+◌, ◌*◌, ◌^◌, ◌≤◌, ◌<◌, arith}
use native.Mathlib.Nat.{pow-zero}
use Rattle.text.proofs.DigitLaws.{value-is, digit-good, digits-good, value_more, value-fits, value-end}
use Rattle.text.proofs.digits.DigitTable.value_of.Goals as goal

-- One digit more still fits.
fitting : (c : goal.After-value-v) → let l = c.loop-c in let base = c.args.base in
    (l.acc * base + c.value-v.result < base ^ (l.c-index + 1)) × (base ^ (l.c-index + 1) ≤ 2 ^ 64)
fitting c =
    let l = c.loop-c in
    let a = c.args in
    let d = c.value-v in
    value-fits a.base l.c-index a.s.now (omega arith) d.result d.ensures l.acc (2 ^ 64) l.invariant.2 (digit-good a.base l.c-index a.s.now (omega arith) d.result d.ensures l.invariant.1) c.requires.1

pub loop-c-init : goal.loop-c-init
loop-c-init c = (value-is _ _, c.requires.0, rw pow-zero (omega arith))

pub overflow_mul-acc : goal.overflow_mul-acc
overflow_mul-acc c = omega (arith, fitting c)

pub overflow_add-acc : goal.overflow_add-acc
overflow_add-acc c = omega (arith, fitting c)

pub loop-c-preserved : goal.loop-c-preserved
loop-c-preserved c = let l = c.loop-c in
    let a = c.args in
    let d = c.value-v in (
      value_more a.base l.c-index a.s.now (omega arith) d.result d.ensures l.acc ∙ l.invariant.0,
      digits-good a.base l.c-index a.s.now (omega arith) d.result d.ensures l.invariant.1,
      (fitting c).0,
    )

pub returns : goal.returns
returns c = let l = c.loop-c in
    let a = c.args in
    value-end a.base l.c-index a.s.now (omega arith) l.acc ∙ l.invariant.0
