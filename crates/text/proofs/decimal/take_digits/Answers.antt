use Rattle.std.proofs.Common.{◌+◌, ◌%◌, refl, arith}
use native.Mathlib.Nat.{div-one, pow-zero}
use Rattle.text.specs.Numerals.{digits, low_bytes}
use Rattle.text.proofs.DecimalLaws.{held_more, rest_more, held_fits, held_below}
use Rattle.text.proofs.decimal.take_digits.Goals as goal

pub loop-init : goal.loop-init
unfolding low_bytes digits
loop-init c = (refl, rw pow-zero (omega arith), rw (pow-zero, div-one))

pub overflow_mul-held : goal.overflow_mul-held
overflow_mul-held c = let l = c.loop in omega (arith, held_below l.counter l.held (omega arith) l.invariant.1)

pub overflow_add-held-in-loop : goal.overflow_add-held-in-loop
overflow_add-held-in-loop c = let l = c.loop in omega (arith, held_below l.counter l.held (omega arith) l.invariant.1)

pub loop-preserved : goal.loop-preserved
loop-preserved c = let l = c.loop in
    let v = c.args.v in
    (held_more l.counter v l.held l.rest l.invariant.2 l.invariant.0, held_fits l.counter l.held (48 + l.rest % 10) l.invariant.1 (omega arith), rest_more l.counter v l.held l.rest l.invariant.2)
