use Prim.Native.Nat.{◌*◌}
use Rattle.text.proofs.TableLaws.{Filled}
use Rattle.lister.specs.Pieces.{eight_at}
use Rattle.lister.proofs.table.eights.Given as goal

abbrev pub invariant-loop-n : goal.invariant-loop-n
invariant-loop-n l = Filled (λ k. eight_at l.bytes (k * 8)) 39 39 l.table l.n
