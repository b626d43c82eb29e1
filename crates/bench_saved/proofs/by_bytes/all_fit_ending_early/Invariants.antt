use Rattle.std.proofs.Common.{◌≡◌, drop}
use Rattle.bitpack.specs.Packed.{fit}
use Rattle.bench_saved.proofs.by_bytes.all_fit_ending_early.Given as goal

abbrev pub invariant-loop-i : goal.invariant-loop-i
invariant-loop-i l = fit l.widths l.values ≡ fit (drop l.i l.widths) (drop l.i l.values)
