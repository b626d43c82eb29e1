use Rattle.trace.proofs.LineLaws.{instruction_put}
use Rattle.trace.proofs.log_lines.put_instruction.Goals as goal

pub returns : goal.returns
returns c =
    let a = c.args in
    let p = c.requires in
    let first = c.put_eight.ensures in
    let digits = c.front_digits.ensures in
    let next = c.put_hex_byte.ensures in
    let last = c.put_eight-2.ensures in
    instruction_put a.pc a.word a.at a.out.now _ _ _ (rw digits at first) next (rw p.1 at last)
