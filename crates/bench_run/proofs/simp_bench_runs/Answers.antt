use Prim.Native.Nat.{◌-◌, ◌+◌}
use mathlib.Core.Path.{◌≡◌, refl, ◌∙◌}
use native.Mathlib.Omega.{arith}
use lib.ListN.{length}
use Rattle.runner.specs.Answers.{done_of}
use Rattle.bench_run.specs.ByCalls.{stands_with}
use Rattle.bench_run.proofs.LoopLaws.{none_made, one_more, within, by_calls, by_idle}
use Rattle.bench_run.proofs.simp_bench_runs.Goals as goal

pub loop-left-init : goal.loop-left-init
loop-left-init c = (rw c.fresh_record-state.ensures (none_made _ _ _ _), refl, refl, refl)

pub returns-then-r-eq0 : goal.returns-then-r-eq0
returns-then-r-eq0 c =
    let a = c.args in
    let l = c.loop-left in
    let r = c.run-r in
    by_idle l.invariant.0 (a.budget - l.left) (let all = l.invariant.0.spent in omega arith)
    (done_of r.result a.image.now r.new.memory r.new.disk r.new.frame r.new.log) r.ensures
    c.if-r-eq0.true
    (stands_with a.image.now r.new.memory r.new.disk r.new.frame) (r.result.state, refl)

pub overflow_sub-left : goal.overflow_sub-left
overflow_sub-left c =
    let a = c.args in
    let l = c.loop-left in
    let r = c.run-r in
    within l.invariant.0 (done_of r.result a.image.now r.new.memory r.new.disk r.new.frame r.new.log) r.ensures

pub loop-left-preserved : goal.loop-left-preserved
loop-left-preserved c =
    let a = c.args in
    let l = c.loop-left in
    let r = c.run-r in
    let most = within l.invariant.0 (done_of r.result a.image.now r.new.memory r.new.disk r.new.frame r.new.log) r.ensures in
    let rest : l.left - r.result.cycles + r.result.cycles ≡ l.left = omega (arith, most) in
    let log-kept : length r.new.log ≡ length l.log = omega (arith, r.auto) in
    let memory_kept : length r.new.memory ≡ length l.memory = omega (arith, r.auto) in
    let disk-kept : length r.new.disk ≡ length l.disk = omega (arith, r.auto) in
    let frame-kept : length r.new.frame ≡ length l.frame = omega (arith, r.auto) in
    (one_more l.invariant.0 (done_of r.result a.image.now r.new.memory r.new.disk r.new.frame r.new.log) r.ensures log-kept (l.left - r.result.cycles) rest, memory_kept ∙ l.invariant.1, disk-kept ∙ l.invariant.2, frame-kept ∙ l.invariant.3)

pub returns : goal.returns
returns c =
    let a = c.args in
    let l = c.loop-left in
    by_calls l.invariant.0 a.budget (omega (arith, c.loop-left-test.false)) refl (stands_with a.image.now l.memory l.disk l.frame) (l.state, refl)
