use Prim.Native.Nat.{◌+◌, ◌≤◌}
use Rattle.check_commands.proofs.main.Given as goal

abbrev pub invariant-loop-left : goal.invariant-loop-left
invariant-loop-left l = (l.i + l.left ≤ 65537) × (1 ≤ l.i)

abbrev pub decreases-loop-left : goal.decreases-loop-left
decreases-loop-left l = l.left
