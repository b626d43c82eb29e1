use Rattle.std.proofs.Common.{◌∙◌, ◌+◌, ◌*◌, ◌^◌, ◌≤◌, ◌<◌, arith}
use native.Mathlib.Nat.{pow-zero}
use Rattle.text.proofs.DigitLaws.{numeral-is, numeral_more, numeral_stop, numeral-end, value-fits}
use Rattle.text.proofs.digits.DigitTable.read_digits.Goals as goal

-- One digit more still fits.
fitting : (c : goal.Else-base-d) → let l = c.loop-c in let base = c.args.base in
    (l.acc * base + c.value-d.result < base ^ (l.c-index + 1)) × (base ^ (l.c-index + 1) ≤ 2 ^ 64)
fitting c =
    let l = c.loop-c in
    let a = c.args in
    let d = c.value-d in
    value-fits a.base l.c-index a.s.now (omega arith) d.result d.ensures l.acc (2 ^ 64) l.invariant.1 c.if-base-d.false c.requires.1

pub loop-c-init : goal.loop-c-init
loop-c-init c = (numeral-is _ _, rw pow-zero (omega arith))

pub returns-then-base-d : goal.returns-then-base-d
returns-then-base-d c = let l = c.loop-c in
    let a = c.args in
    numeral_stop a.base l.c-index a.s.now (omega arith) _ c.value-d.ensures l.acc c.if-base-d.true ∙ l.invariant.0

pub overflow_mul-acc : goal.overflow_mul-acc
overflow_mul-acc c = omega (arith, fitting c)

pub overflow_add-acc : goal.overflow_add-acc
overflow_add-acc c = omega (arith, fitting c)

pub loop-c-preserved : goal.loop-c-preserved
loop-c-preserved c = let l = c.loop-c in
    let a = c.args in
    let d = c.value-d in
    (numeral_more a.base l.c-index a.s.now (omega arith) d.result d.ensures l.acc c.if-base-d.false ∙ l.invariant.0, (fitting c).0)

pub returns : goal.returns
returns c = let l = c.loop-c in
    let a = c.args in
    numeral-end a.base l.c-index a.s.now (omega arith) l.acc ∙ l.invariant.0
