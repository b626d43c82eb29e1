use Rattle.bench_saved.proofs.TurnLaws.{Reading}
use Rattle.bench_saved.proofs.simp_bench_loads.Given as goal

abbrev pub invariant-loop : goal.invariant-loop
invariant-loop l = Reading l.bytes l.counter l.r l.k
