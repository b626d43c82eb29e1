use Rattle.std.proofs.Common.{refl, arith}
use Rattle.text.proofs.Truth.{same_between}
use Rattle.isa.specs.Registers.{io_bits}
use Rattle.isa.proofs.IoLaws.{low_same}
use Rattle.isa.proofs.io.low_bits_in_monitor.Goals as goal

pub returns-in-20 : goal.returns-in-20
unfolding io_bits
returns-in-20 c = rw c.in-20.is refl

pub returns-in-21 : goal.returns-in-21
unfolding io_bits
returns-in-21 c = rw c.in-21.is refl

pub returns-in_default : goal.returns-in_default
unfolding io_bits
returns-in_default c = low_same c.args.n c.args.x 1 (same_between io_bits 1 22 23 refl c.args.n (omega arith) (omega arith))
