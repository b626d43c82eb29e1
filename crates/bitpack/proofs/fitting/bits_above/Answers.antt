use mathlib.Core.Path.{sym}
use native.Mathlib.Nat.{div-eq_of_lt, lt_of_lt_of_le}
use lib.Pow.{pow_mono}
use Rattle.bitpack.proofs.fitting.bits_above.Goals as goal

pub returns-else-w-lt64 : goal.returns-else-w-lt64
returns-else-w-lt64 c = sym (div-eq_of_lt (lt_of_lt_of_le c.ranges.v.fits (pow_mono c.if-w-lt64.false)))
