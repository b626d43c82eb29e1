use native.Mathlib.Omega.{arith}
use Rattle.trace.proofs.LengthLaws.{length-LD}
use Rattle.trace.proofs.LineLaws.{line_ld_put}
use Rattle.trace.proofs.log_lines.put_line_ld.Goals as goal

pub put_cycle-value_at-requires : goal.put_cycle-value_at-requires
put_cycle-value_at-requires c =
    let room = simp length-LD at c.requires.0 in (omega arith, c.requires.1)

pub put_last_digits-requires : goal.put_last_digits-requires
put_last_digits-requires c =
    let room = simp length-LD at c.requires.0 in
    omega arith

pub returns : goal.returns
returns c =
    let a = c.args in
    let cycle = c.put_cycle-value_at.ensures in
    let value = c.put_last_digits.ensures in
    let held = c.hex_word-held.ensures in
    (line_ld_put a.letter a.c a.x a.at _ a.out.now _ _ cycle.1 (rw held at value.0), rw length-LD (omega arith))
