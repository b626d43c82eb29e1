use Prim.Native.Nat.{◌+◌, ◌-◌, ◌≤◌}
use lib.ListN.{length}
use Rattle.assembler.proofs.TranslateLaws.{Translating}
use Rattle.assembler.proofs.translate.translate.Given as goal

abbrev pub invariant-loop-p : goal.invariant-loop-p
invariant-loop-p l = record {
  done : Translating l.source l.words l.memory l.p l.i l.n l.m;
  within : l.p ≤ length l.source + 1;
  few : l.i ≤ l.p;
}

abbrev pub decreases-loop-p : goal.decreases-loop-p
decreases-loop-p l = length l.source + 1 - l.p
