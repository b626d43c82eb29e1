use Prim.Native.Nat.{◌^◌, ◌+◌, ◌-◌, ◌<◌}
use mathlib.Core.Path.{◌≡◌, refl, sym, ◌∙◌, ap}
use native.Mathlib.Omega.{arith}
use lib.ListN.{length}
use Rattle.machine.specs.declared.Core.{Core}
use Rattle.executor.specs.Lent.{packed}
use Rattle.irq2_list.proofs.PlaceLaws.{hit_at}
use Rattle.runner.proofs.TurnLaws.{turn}
use Rattle.runner.proofs.GoLaws.{sets_out, ends_last, ends_there, goes_round, older}
use Rattle.runner.proofs.cycles.make_cycles.Goals as goal

pub loop-c-init : goal.loop-c-init
loop-c-init c =
    let p = c.requires in
    let none : c.args.start.age - c.args.start.age ≡ 0 = omega arith in
    (rw none (sets_out _ _ _ _ _ p.rising _ c.first_awaited-awaited.ensures.0), record { sound = p.sound; sized = p.sized.1 }, refl, refl, refl, refl, omega arith, c.last_age-last.ensures.lower_bound.0, c.first_awaited-awaited.ensures.1)

pub returns-then-not-may_cycle : goal.returns-then-not-may_cycle
returns-then-not-may_cycle c =
    let a = c.args in
    let p = c.requires in
    let l = c.loop-c in
    let e = c.ended.ensures in
    let may = c.may_cycle in
    ends_there a.image.now a.irq2.now (packed a.start a.registers.now.regs a.io.now a.memory.now a.disk.now a.frame.now) a.budget a.log.now p.rising (l.c.age - a.start.age) l.at l.awaited.place (packed l.c l.registers.regs l.io l.memory l.disk l.frame) l.log l.invariant.0 c.is_awaited-hit.result (hit_at c.is_awaited-hit.result l.c.age l.awaited.place l.awaited.cycle a.irq2.now (omega (arith, l.invariant.1.sound.core.age)) l.invariant.8 c.is_awaited-hit.ensures) may.result c.if-not-may_cycle.true (may.ensures l.memory l.disk l.frame) c.ended.result _ (ap (λ (x : Core). packed x l.registers.regs l.io l.memory l.disk l.frame) e.place.0) e.place.1 e.place.2 e.reason

pub loop-c-smaller : goal.loop-c-smaller
loop-c-smaller c =
    let a = c.args in
    let l = c.loop-c in
    let e = c.cycle-s in
    let aged = older a.image.now c.is_awaited-hit.result (packed l.c l.registers.regs l.io l.memory l.disk l.frame) (packed e.result.core e.new.registers.regs e.new.io e.new.memory e.new.disk e.new.frame) l.log e.new.log l.at e.result.at e.ensures in
    omega (arith, aged, c.loop-c-test.true)

pub loop-c-preserved : goal.loop-c-preserved
loop-c-preserved c =
    let a = c.args in
    let p = c.requires in
    let l = c.loop-c in
    let e = c.cycle-s in
    let i = l.invariant in
    let hit = c.is_awaited-hit in
    let here = hit_at hit.result l.c.age l.awaited.place l.awaited.cycle a.irq2.now (omega (arith, l.invariant.1.sound.core.age)) l.invariant.8 hit.ensures in
    let may = c.may_cycle in
    let below = c.loop-c-test.true in
    let last = c.last_age-last.ensures.lower_bound in
    let young : l.c.age < 2 ^ 40 - 1 = omega (arith, below, last.1.1) in
    let next = turn a.image.now hit.result l.c e.result.core l.registers.regs e.new.registers.regs l.io e.new.io l.memory e.new.memory l.disk e.new.disk l.frame e.new.frame l.log e.new.log l.at e.result.at i.1 young e.ensures in
    let aged = older a.image.now hit.result (packed l.c l.registers.regs l.io l.memory l.disk l.frame) (packed e.result.core e.new.registers.regs e.new.io e.new.memory e.new.disk e.new.frame) l.log e.new.log l.at e.result.at e.ensures in
    let from = i.6 in
    let counted : e.result.core.age - a.start.age ≡ l.c.age - a.start.age + 1 = omega (arith, aged, from) in
    let round = goes_round a.image.now a.irq2.now (packed a.start a.registers.now.regs a.io.now a.memory.now a.disk.now a.frame.now) a.budget a.log.now p.rising (l.c.age - a.start.age) l.at l.awaited.place (packed l.c l.registers.regs l.io l.memory l.disk l.frame) l.log l.invariant.0 hit.result here may.result c.if-not-may_cycle.false (may.ensures l.memory l.disk l.frame) (omega (arith, below, last.1.0, from)) (packed e.result.core e.new.registers.regs e.new.io e.new.memory e.new.disk e.new.frame) e.new.log e.result.at e.ensures c.next_awaited-awaited.result.place c.next_awaited-awaited.ensures.0 in
    let same : length e.new.log ≡ length l.log = omega (arith, e.auto) in
    let z = next.sized in
    let y = i.1.sized in
    (rw counted round, next, same ∙ i.2, z.memory_size ∙ sym y.memory_size ∙ i.3, z.disk_size ∙ sym y.disk_size ∙ i.4, z.frame_size ∙ sym y.frame_size ∙ i.5, omega (arith, aged, from), omega (arith, aged, below), c.next_awaited-awaited.ensures.1)

pub returns : goal.returns
returns c =
    let a = c.args in
    let p = c.requires in
    let l = c.loop-c in
    let e = c.ended-2.ensures in
    let last = c.last_age-last in
    let there : l.c.age ≡ last.result = omega (arith, c.loop-c-test.false, l.invariant.7) in
    ends_last a.image.now a.irq2.now (packed a.start a.registers.now.regs a.io.now a.memory.now a.disk.now a.frame.now) a.budget a.log.now p.rising (l.c.age - a.start.age) l.at l.awaited.place (packed l.c l.registers.regs l.io l.memory l.disk l.frame) l.log l.invariant.0 (there ∙ last.ensures.value) (omega (arith, l.invariant.6)) c.ended-2.result _ (ap (λ (x : Core). packed x l.registers.regs l.io l.memory l.disk l.frame) e.place.0) e.place.1 e.place.2 e.reason
