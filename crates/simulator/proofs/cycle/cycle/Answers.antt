use Rattle.std.proofs.Common.{ℕ, ◌+◌, ◌^◌, ◌≤◌, List, length, sym, ap, ◌∙◌, subst, arith}
use Rattle.machine.specs.State.{Machine}
use Rattle.machine.specs.Cycle.{at_fetch}
use Rattle.machine.specs.Log.{lines_at_fetch}
use Rattle.machine.proofs.AgeLaws.{age-at_fetch}
use Rattle.simulator.proofs.StepLaws.{sound-begun}
use Rattle.simulator.proofs.CycleLaws.{cycle-is, lines_any}
use Rattle.machine.specs.Execution.{fetched_and_executed}
use Rattle.machine.proofs.SoundLaws.{SoundMachine, sound-at_fetch, sound-fetched, left_not_less}
use Rattle.executor.specs.Lent.{packed}
use Rattle.simulator.proofs.cycle.cycle.Goals as goal

pub fetch_and_execute-d-requires-clause-fetched : goal.fetch_and_execute-d-requires-clause-fetched
fetch_and_execute-d-requires-clause-fetched c =
    let a = c.args in
    let s = sound-begun a.hit a.c _ a.registers.now.regs a.io.now _ a.memory.now a.disk.now a.frame.now c.requires.sound (c.begin_cycle-s.ensures a.registers.now.regs a.memory.now a.disk.now a.frame.now) in
    (s.core.pc, c.requires.sized.0)

pub fetch_and_execute-d-requires-clause-prefix : goal.fetch_and_execute-d-requires-clause-prefix
fetch_and_execute-d-requires-clause-prefix c =
    let a = c.args in
    let m = packed a.c a.registers.now.regs a.io.now a.memory.now a.disk.now a.frame.now in
    let e = c.begin_cycle-s.ensures a.registers.now.regs a.memory.now a.disk.now a.frame.now in
    let aged = ap (λ (x : Machine). x.core.age) e ∙ (age-at_fetch a.hit m).same in
    rw aged c.update.ensures

pub fetch_and_execute-d-requires-clause-ready : goal.fetch_and_execute-d-requires-clause-ready
fetch_and_execute-d-requires-clause-ready c =
    let a = c.args in
    let s = sound-begun a.hit a.c _ a.registers.now.regs a.io.now _ a.memory.now a.disk.now a.frame.now c.requires.sound (c.begin_cycle-s.ensures a.registers.now.regs a.memory.now a.disk.now a.frame.now) in
    let z = c.requires.sized.1 in
    (z.memory_size, record { all = s.all; fitting = s.fitting; frame_size = z.frame_size })

pub fetch_and_execute-d-requires-clause-room : goal.fetch_and_execute-d-requires-clause-room
fetch_and_execute-d-requires-clause-room c = λ disk.
    let a = c.args in
    let regs = a.registers.now.regs in
    let e = c.begin_cycle-s.ensures regs a.memory.now a.disk.now a.frame.now in
    let room = subst (λ (x : Machine). a.at + length (lines_at_fetch a.image.now x) ≤ length a.log.now) (sym e) c.requires.room in
    subst (λ (l : List ℕ). a.at + length l ≤ length a.log.now) (lines_any a.image.now _ regs _ a.memory.now a.disk.now disk a.frame.now) room

pub end_cycle-requires : goal.end_cycle-requires
end_cycle-requires c =
    let a = c.args in
    let p = c.requires in
    let regs = a.registers.now.regs in
    let m = packed a.c regs a.io.now a.memory.now a.disk.now a.frame.now in
    let e = c.begin_cycle-s.ensures regs a.memory.now a.disk.now a.frame.now in
    let x = c.fetch_and_execute-d.ensures.executed a.disk.now ∙ ap (fetched_and_executed a.image.now) e in
    let s = sound-fetched (2 ^ 40) a.image.now (at_fetch a.hit m) (sound-at_fetch (2 ^ 40) a.hit m (record { record_is = p.sound })) in
    let t = (subst (SoundMachine (2 ^ 40)) (sym x) s).record_is in
    let left = left_not_less (2 ^ 40) a.image.now a.hit m (record { record_is = p.sound }) in
    let z = p.sized.1 in
    let all = t.all in
    let d = t.disk in
    (subst (λ (y : Machine). a.c.drive.left ≤ y.core.drive.left) (sym x) left, (t.core.age, record { all = omega arith; left = d.left; buffer-fits = omega (arith, d.buffer, z.memory_size); sector-fits = omega (arith, d.sector, z.disk_size) }))

pub returns : goal.returns
returns c =
    let a = c.args in
    let regs = a.registers.now.regs in
    let m = packed a.c regs a.io.now a.memory.now a.disk.now a.frame.now in
    let e = c.begin_cycle-s.ensures regs a.memory.now a.disk.now a.frame.now in
    let x = c.fetch_and_execute-d.ensures in
    let logged = x.logged a.disk.now in
    cycle-is a.image.now a.hit m _ _ _ a.log.now _ a.at _ e (x.executed a.disk.now) (c.end_cycle.ensures c.fetch_and_execute-d.new.registers.regs _) logged.0 logged.1
