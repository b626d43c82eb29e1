use Rattle.std.proofs.Common.{refl, arith}
use Rattle.text.proofs.Truth.{same_between}
use Rattle.isa.specs.Registers.{io_bits}
use Rattle.isa.proofs.IoLaws.{low_same}
use Rattle.isa.proofs.io.low_bits_in_device.Goals as goal

pub returns-in-11 : goal.returns-in-11
unfolding io_bits
returns-in-11 c = rw c.in-11.is refl

pub returns-in-12 : goal.returns-in-12
unfolding io_bits
returns-in-12 c = rw c.in-12.is (omega (arith, c.ranges.x.fits))

pub returns-in-13 : goal.returns-in-13
unfolding io_bits
returns-in-13 c = rw c.in-13.is (omega (arith, c.ranges.x.fits))

pub returns-in-14 : goal.returns-in-14
unfolding io_bits
returns-in-14 c = rw c.in-14.is refl

pub returns-in-15 : goal.returns-in-15
unfolding io_bits
returns-in-15 c = rw c.in-15.is refl

pub returns-in-16 : goal.returns-in-16
unfolding io_bits
returns-in-16 c = rw c.in-16.is refl

pub returns-in_default : goal.returns-in_default
unfolding io_bits
returns-in_default c = low_same c.args.n c.args.x 1 (same_between io_bits 1 17 18 refl c.args.n (omega arith) (omega arith))
