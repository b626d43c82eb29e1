use Prim.Native.Nat.{◌<◌}
use native.Mathlib.Omega.{arith}
use lib.ListN.{get_or}
use Rattle.isa.specs.Registers.{io_bits}
use Rattle.executor.proofs.output.paint.Goals as goal

pub overflow_cast-frame : goal.overflow_cast-frame
unfolding io_bits
overflow_cast-frame c = record { fits = c.requires.0 21 }

pub bounds-frame-io : goal.bounds-frame-io
unfolding io_bits
bounds-frame-io c =
    let low : get_or c.args.io.now 20 0 < 65536 = c.requires.0 20 in omega (arith, low, c.requires.1)
