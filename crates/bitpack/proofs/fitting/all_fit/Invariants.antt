use Rattle.std.proofs.Common.{◌≡◌, ◌&&◌, eqb, drop}
use Rattle.bitpack.specs.Packed.{fit}
use Rattle.bitpack.proofs.fitting.all_fit.Given as goal

abbrev pub invariant-loop-i : goal.invariant-loop-i
invariant-loop-i l = fit l.widths l.values ≡ (eqb l.over 0 && fit (drop l.i l.widths) (drop l.i l.values))
