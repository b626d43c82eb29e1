use mathlib.Core.Path.{◌∙◌, ap}
use native.Mathlib.Omega.{arith}
use lib.ListN.{length-append}
use Rattle.text.specs.Place.{put}
use Rattle.executor.proofs.RegisterLaws.{text-length}
use Rattle.trace.specs.LogLines.{line_t}
use Rattle.trace.proofs.LengthLaws.{length-T}
use Rattle.text.proofs.PieceLaws.{more}
use Rattle.simulator.proofs.OperandLaws.{line_of}
use Rattle.simulator.proofs.cycle.put_lines.Goals as goal

pub put_line_t-line-requires : goal.put_line_t-line-requires
put_line_t-line-requires c =
    let a = c.args in
    let p = c.requires in
    let room = rw length-append at p.room in
    let line = length-T a.c.pc a.word a.registers.now.regs in
    (omega (arith, room, line, a.registers.now.kept.sixteen), text-length a.registers.now.kept)

pub put_io_lines-requires : goal.put_io_lines-requires
put_io_lines-requires c =
    let a = c.args in
    let p = c.requires in
    let room = rw length-append at p.room in
    let line = length-T a.c.pc a.word a.registers.now.regs in
    let t = c.put_line_t-line in
    (omega (arith, room, line, a.registers.now.kept.sixteen, t.ensures.1, t.auto), p.prefix)

pub returns : goal.returns
returns c =
    let a = c.args in
    let p = c.requires in
    let immediates = c.requires.immediates in
    let t = c.put_line_t-line in
    let h = c.put_io_lines in
    let line = length-T a.c.pc a.word a.registers.now.regs in (
      more a.log.now _ _ a.at t.result (line_t a.c.pc a.word a.registers.now.regs) _ (omega (arith, line, a.registers.now.kept.sixteen, t.ensures.1)) (t.ensures.0 ∙ ap (put a.log.now a.at) (line_of a.c.pc a.word _ _ a.registers.now.regs a.registers.now.text a.registers.now.kept immediates.0 immediates.1)) h.ensures.0,
      rw length-append (omega (arith, line, a.registers.now.kept.sixteen, t.ensures.1, h.ensures.1)),
    )
