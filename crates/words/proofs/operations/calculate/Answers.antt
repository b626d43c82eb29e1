use Rattle.isa.specs.Operations.{calculation_of}
use Rattle.std.proofs.Common.{◌≡◌, arith}
use Rattle.words.proofs.operations.calculate.Goals as goal

pub returns-in-0 : goal.returns-in-0
unfolding calculation_of
returns-in-0 c = rw (c.in-0.is, c.plus-in-0.ensures, c.plus.ensures)

pub returns-in-1 : goal.returns-in-1
unfolding calculation_of
returns-in-1 c = rw (c.in-1.is, c.minus-in-1.ensures, c.minus.ensures)

pub returns-in-2 : goal.returns-in-2
unfolding calculation_of
returns-in-2 c = rw (c.in-2.is, c.plus-in-2.ensures, c.times.ensures)

pub returns-in-3 : goal.returns-in-3
unfolding calculation_of
returns-in-3 c = rw c.in-3.is

pub returns-in-4 : goal.returns-in-4
unfolding calculation_of
returns-in-4 c = rw c.in-4.is

pub returns-in-5 : goal.returns-in-5
unfolding calculation_of
returns-in-5 c = rw c.in-5.is

pub returns-in-6 : goal.returns-in-6
unfolding calculation_of
returns-in-6 c = rw c.in-6.is

pub returns-in-7 : goal.returns-in-7
unfolding calculation_of
returns-in-7 c = rw c.in-7.is c.shift_signed.ensures

pub returns-in_default : goal.returns-in_default
unfolding calculation_of
returns-in_default c =
    let eight : c.args.op ≡ 8 = omega arith in
    rw eight
