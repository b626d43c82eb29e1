use Rattle.std.proofs.Common.{sym, refl, arith}
use Rattle.text.proofs.Truth.{same_between}
use Rattle.isa.specs.Registers.{io_bits}
use Rattle.isa.proofs.IoLaws.{no_bits-above, low_same, low_word, low_none}
use Rattle.isa.proofs.io.low_bits.Goals as goal

pub returns-in-0-to-5 : goal.returns-in-0-to-5
unfolding io_bits
returns-in-0-to-5 c = low_same c.args.n c.args.x 1 (same_between io_bits 1 0 6 refl c.args.n (omega arith) (omega arith))

pub returns-in-6-to-7 : goal.returns-in-6-to-7
unfolding io_bits
returns-in-6-to-7 c = low_same c.args.n c.args.x 12 (same_between io_bits 12 6 8 refl c.args.n (omega arith) (omega arith))

pub returns-in-8-to-10 : goal.returns-in-8-to-10
unfolding io_bits
returns-in-8-to-10 c = low_word c.args.n c.args.x c.ranges.x.fits (same_between io_bits 32 8 11 refl c.args.n (omega arith) (omega arith))

pub returns-in_default : goal.returns-in_default
unfolding io_bits
returns-in_default c = low_none c.args.n c.args.x (same_between io_bits 0 18 20 refl c.args.n (omega arith) (omega arith))

pub returns-in_default-2 : goal.returns-in_default-2
unfolding io_bits
returns-in_default-2 c = low_none c.args.n c.args.x (sym (no_bits-above c.args.n (omega arith)))
