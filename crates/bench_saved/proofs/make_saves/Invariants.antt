use Prim.Native.Nat.{◌-◌, ◌≤◌}
use mathlib.Core.Path.{◌≡◌}
use lib.ListN.{length}
use Rattle.bench_saved.proofs.TurnLaws.{Saving}
use Rattle.bench_saved.proofs.make_saves.Given as goal

abbrev pub invariant-loop-s : goal.invariant-loop-s
invariant-loop-s l = Saving l.initial.s l.initial.bytes (l.s.core.age - l.initial.s.core.age) l.s l.bytes l.n × (l.initial.s.core.age ≤ l.s.core.age) × (l.s.core.age - l.initial.s.core.age ≤ l.to - l.initial.s.core.age) × (length l.bytes ≡ length l.initial.bytes)

abbrev pub decreases-loop-s : goal.decreases-loop-s
decreases-loop-s l = l.to - l.s.core.age
