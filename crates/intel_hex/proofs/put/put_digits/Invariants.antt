use Prim.Native.Nat.{◌+◌, ◌*◌, ◌/◌, ◌%◌, ◌≤◌}
use mathlib.Core.Path.{◌≡◌}
use lib.ListN.{drop}
use Rattle.text.specs.Place.{put}
use Rattle.intel_hex.specs.Words.{memory_bytes}
use Rattle.intel_hex.specs.Record.{total}
use Rattle.intel_hex.specs.Writing.{byte_pairs}
use Rattle.intel_hex.proofs.put.put_digits.Given as goal

abbrev pub invariant-loop-i : goal.invariant-loop-i
invariant-loop-i l = record {
  digits : put l.out (l.at + l.i * 8) (byte_pairs (memory_bytes (drop l.i l.words))) ≡ put l.initial.out l.at (byte_pairs (memory_bytes l.words));
  sum : l.sums % 65536 + l.sums / 65536 + total (memory_bytes (drop l.i l.words)) ≡ total (memory_bytes l.words);
  low : l.sums % 65536 ≤ 510 * l.i;
  high : l.sums / 65536 ≤ 510 * l.i;
}
