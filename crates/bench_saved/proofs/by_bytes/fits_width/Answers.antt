use Rattle.std.proofs.Common.{sym, ◌∙◌}
use native.Mathlib.Nat.{lt_of_lt_of_le}
use lib.Pow.{pow_mono}
use borrow.Author.Tests.{lt-ltb, le-leb}
use Rattle.bitpack.proofs.BitLaws.{shift_test}
use Rattle.bench_saved.proofs.by_bytes.fits_width.Goals as goal

pub returns-then-w-ge64 : goal.returns-then-w-ge64
returns-then-w-ge64 c = le-leb _ _ c.if-w-ge64.true ∙ sym (lt-ltb _ _ (lt_of_lt_of_le c.ranges.v.fits (pow_mono c.if-w-ge64.true)))

pub returns-else-w-ge64 : goal.returns-else-w-ge64
returns-else-w-ge64 c = shift_test c.args.v c.args.w
