use mathlib.Core.Path.{refl, ap}
use mathlib.Core.List.{[]}
use native.Mathlib.Omega.{arith}
use lib.ListN.{length}
use Rattle.machine.specs.State.{Machine}
use Rattle.machine.specs.Log.{lines_at_fetch}
use Rattle.simulator.proofs.StepLaws.{sound-begun}
use Rattle.machine.proofs.LineLaws.{length-io}
use Rattle.isa.specs.Operations.{operation_of}
use Rattle.simulator.proofs.CycleLaws.{lines_size}
use Rattle.simulator.proofs.lengths.lines_length.Goals as goal

pub bounds-image-s : goal.bounds-image-s
bounds-image-s c =
    let a = c.args in
    let p = c.requires in
    let s = sound-begun a.hit a.c _ a.regs.now a.io.now _ [] [] [] p.sound (c.begin_cycle-s.ensures a.regs.now [] [] []) in
    omega (arith, s.core.pc, p.sized.2)

pub io_lines_length-requires : goal.io_lines_length-requires
io_lines_length-requires c =
    let a = c.args in
    (sound-begun a.hit a.c _ a.regs.now a.io.now _ [] [] [] c.requires.sound (c.begin_cycle-s.ensures a.regs.now [] [] [])).core.age

pub overflow_add-result : goal.overflow_add-result
overflow_add-result c =
    let a = c.args in
    let s = sound-begun a.hit a.c _ a.regs.now a.io.now _ [] [] [] c.requires.sound (c.begin_cycle-s.ensures a.regs.now [] [] []) in
    let most = length-io c.begin_cycle-s.result.age s.core.age (operation_of c.decode-f.result.op) c.read_operands-o.result c.begin_cycle-s.new.io in
    record { fits = omega (arith, most, c.io_lines_length.ensures) }

pub returns : goal.returns
returns c = λ memory disk frame.
    let a = c.args in
    let e = c.begin_cycle-s.ensures a.regs.now memory disk frame in
    let o = c.read_operands-o.ensures c.begin_cycle-s.result c.begin_cycle-s.new.io memory disk frame in
    let size = lines_size a.image.now c.begin_cycle-s.result a.regs.now _ c.begin_cycle-s.new.io memory disk frame _ c.decode-f.result _ refl c.decode-f.ensures o c.requires.sized.0 in
    let now = ap (λ (m : Machine). length (lines_at_fetch a.image.now m)) e in
    omega (arith, size, now, c.io_lines_length.ensures)
