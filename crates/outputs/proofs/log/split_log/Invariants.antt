use Prim.Native.Nat.{◌+◌, ◌-◌, ◌≤◌}
use lib.ListN.{length}
use Rattle.outputs.specs.LogFiles.{letter_t, letter_h, letter_l, letter_d}
use Rattle.outputs.proofs.LogLaws.{Taking}
use Rattle.outputs.proofs.log.split_log.Given as goal

abbrev pub invariant-loop-from : goal.invariant-loop-from
invariant-loop-from l = Taking letter_t l.log l.initial.trace l.from l.t l.trace × Taking letter_h l.log l.initial.hwregtrace l.from l.h l.hwregtrace × Taking letter_l l.log l.initial.leds l.from l.l l.leds × Taking letter_d l.log l.initial.display7seg l.from l.d l.display7seg × (l.from ≤ length l.log + 1)

abbrev pub decreases-loop-from : goal.decreases-loop-from
decreases-loop-from l = length l.log + 1 - l.from
