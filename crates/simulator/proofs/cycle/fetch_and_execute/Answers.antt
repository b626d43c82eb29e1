use Rattle.std.proofs.Common.{ℕ, ◌+◌, List, [], length, refl, ap, ◌∙◌}
use Rattle.text.specs.Place.{put}
use Rattle.machine.specs.declared.Operands.{Operands}
use Rattle.isa.proofs.WordLaws.{decode_fits}
use Rattle.simulator.proofs.CycleLaws.{text_with_immediates, immediates_are, lines_are, executed-is}
use Rattle.simulator.proofs.cycle.fetch_and_execute.Goals as goal

pub invariant_of-registers : goal.invariant_of-registers
invariant_of-registers c =
    let a = c.args in
    let r = a.registers.now in
    let e = c.read_operands-o.ensures a.c a.io.now a.memory.now [] a.frame.now in
    record { kept = text_with_immediates c.decode-f.result a.c r.regs _ r.text a.io.now a.memory.now [] a.frame.now r.kept e.1 }

pub put_lines-end-requires-clause-room : goal.put_lines-end-requires-clause-room
put_lines-end-requires-clause-room c =
    let a = c.args in
    let f = c.decode-f in
    let e = c.read_operands-o.ensures a.c a.io.now a.memory.now [] a.frame.now in
    rw (lines_are a.image.now a.c a.registers.now.regs _ a.io.now a.memory.now [] a.frame.now _ f.result _ refl f.ensures e) (c.requires.room [])

pub put_lines-end-requires-clause-immediates : goal.put_lines-end-requires-clause-immediates
put_lines-end-requires-clause-immediates c =
    let a = c.args in
    let f = c.decode-f in
    let e = c.read_operands-o.ensures a.c a.io.now a.memory.now [] a.frame.now in
    immediates_are a.image.now a.c a.registers.now.regs _ a.io.now a.memory.now [] a.frame.now _ f.result _ refl f.ensures e

pub execute-requires : goal.execute-requires
execute-requires c =
    let a = c.args in
    let f = c.decode-f in
    let e = c.read_operands-o.ensures a.c a.io.now a.memory.now [] a.frame.now in
    (rw (ap (λ (o : Operands). o.target) e.0, f.ensures) (decode_fits _).rd, c.requires.ready.0, c.requires.ready.1)

pub returns-clause-executed : goal.returns-clause-executed
returns-clause-executed c = λ disk.
    let a = c.args in
    let f = c.decode-f in
    c.execute.ensures disk
    ∙ executed-is a.image.now a.c a.registers.now.regs _ a.io.now a.memory.now disk a.frame.now _ f.result _ refl f.ensures (c.read_operands-o.ensures a.c a.io.now a.memory.now disk a.frame.now)

pub returns-clause-logged : goal.returns-clause-logged
returns-clause-logged c = λ disk.
    let a = c.args in
    let f = c.decode-f in
    let l = c.put_lines-end.ensures in
    let e = c.read_operands-o.ensures a.c a.io.now a.memory.now disk a.frame.now in
    let are = lines_are a.image.now a.c a.registers.now.regs _ a.io.now a.memory.now disk a.frame.now _ f.result _ refl f.ensures e in
    (l.0 ∙ ap (λ (s : List ℕ). put a.log.now a.at s) are, l.1 ∙ ap (λ (s : List ℕ). a.at + length s) are)
