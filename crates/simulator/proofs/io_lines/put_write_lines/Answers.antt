use mathlib.Core.Path.{sym}
use native.Mathlib.Omega.{arith}
use lib.ListN.{length-append}
use Rattle.text.proofs.PutLaws.{put_nil}
use Rattle.machine.specs.Log.{io_lines}
use Rattle.text.proofs.PieceLaws.{more}
use Rattle.simulator.proofs.io_lines.put_write_lines.Goals as goal

pub put_line_h-change_at-requires : goal.put_line_h-change_at-requires
unfolding io_lines
put_line_h-change_at-requires c =
    let room = rw (← c.plus-a.ensures, ← c.is_listed.ensures, c.if-is_listed.true, length-append) at c.requires.0 in
    (omega (arith, room), c.requires.1)

pub put_change_line-requires : goal.put_change_line-requires
unfolding io_lines
put_change_line-requires c =
    let room = rw (← c.plus-a.ensures, ← c.is_listed.ensures, c.if-is_listed.true, length-append) at c.requires.0 in
    (omega (arith, room, c.put_line_h-change_at.ensures.1, c.put_line_h-change_at.auto), c.requires.1)

pub returns-then-is_listed : goal.returns-then-is_listed
unfolding io_lines
returns-then-is_listed c =
    let a = c.args in
    let h = c.put_line_h-change_at in
    let w = c.put_change_line in
    rw (← c.plus-a.ensures, ← c.is_listed.ensures, c.if-is_listed.true)
    (more a.log.now _ _ a.at h.result _ _ h.ensures.1 h.ensures.0 w.ensures.0, rw length-append (omega (arith, h.ensures.1, w.ensures.1)))

pub returns : goal.returns
unfolding io_lines
returns c = rw (← c.plus-a.ensures, ← c.is_listed.ensures, c.if-is_listed.false) (sym (put_nil _ _), omega arith)
