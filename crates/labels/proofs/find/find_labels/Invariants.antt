use Prim.Native.Nat.{◌+◌, ◌-◌, ◌≤◌}
use mathlib.Core.Path.{◌≡◌}
use lib.ListN.{length}
use Rattle.labels.proofs.FirstPassLaws.{Noting}
use Rattle.labels.proofs.find.find_labels.Given as goal

abbrev pub invariant-loop-p : goal.invariant-loop-p
invariant-loop-p l = record {
  source : l.names.source.now ≡ l.source;
  noted : Noting l.source l.names.words.now l.values l.p l.n l.names.count;
  within : l.p ≤ length l.source + 1;
  room : length l.names.words.now ≡ length l.fn.words;
}

abbrev pub decreases-loop-p : goal.decreases-loop-p
decreases-loop-p l = length l.source + 1 - l.p
