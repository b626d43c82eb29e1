use Rattle.std.proofs.Common.{sym, refl, arith}
use Rattle.text.proofs.Truth.{between, same_between}
use Rattle.isa.specs.Registers.{is_listed, io_bits}
use Rattle.isa.proofs.IoLaws.{no_bits-above}
use Rattle.isa.proofs.io.is_listed.Goals as goal

pub returns-in-0-to-17 : goal.returns-in-0-to-17
unfolding io_bits
returns-in-0-to-17 c = sym (between is_listed 0 18 refl c.args.n (omega arith) (omega arith))

pub returns-in-20-to-22 : goal.returns-in-20-to-22
unfolding io_bits
returns-in-20-to-22 c = sym (between is_listed 20 23 refl c.args.n (omega arith) (omega arith))

pub returns-in_default : goal.returns-in_default
unfolding io_bits
returns-in_default c = rw (← same_between io_bits 0 18 20 refl c.args.n (omega arith) (omega arith))

pub returns-in_default-2 : goal.returns-in_default-2
unfolding io_bits
returns-in_default-2 c = rw (no_bits-above c.args.n (omega arith))
