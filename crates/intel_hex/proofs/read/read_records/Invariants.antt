use Prim.Native.Nat.{◌+◌, ◌-◌, ◌≤◌}
use mathlib.Core.Path.{◌≡◌}
use lib.ListN.{length, drop}
use Rattle.intel_hex.specs.Reading.{record_lines, records_outcome, put_records}
use Rattle.intel_hex.proofs.OutcomeLaws.{told}
use Rattle.intel_hex.proofs.read.read_records.Given as goal

abbrev pub invariant-loop-at : goal.invariant-loop-at
invariant-loop-at l = record {
  told : told l.room l.free l.i (record_lines (drop l.at l.text)) ≡ records_outcome l.room (record_lines l.text);
  bytes : put_records l.bytes (record_lines (drop l.at l.text)) ≡ put_records l.initial.bytes (record_lines l.text);
  size : length l.bytes ≡ 65792;
  counted : l.i ≤ l.at;
  within : l.at ≤ length l.text + 1;
}

abbrev pub decreases-loop-at : goal.decreases-loop-at
decreases-loop-at l = length l.text + 1 - l.at
