use native.Mathlib.Omega.{arith}
use Rattle.trace.proofs.LineLaws.{first-digits, second_digits, line_t_put}
use Rattle.trace.proofs.log_lines.put_line_t.Goals as goal

pub immediate_digits-first-requires : goal.immediate_digits-first-requires
immediate_digits-first-requires c =
    let low = c.hex_word-low in
    (omega arith, (omega arith, first-digits c.args.word low.result low.ensures))

pub immediate_digits-second-requires : goal.immediate_digits-second-requires
immediate_digits-second-requires c =
    let low = c.hex_word-low in
    (omega arith, (omega (arith, low.type_inv), second_digits c.args.word low.result low.ensures))

pub returns : goal.returns
returns c =
    let a = c.args in
    let instruction = c.put_instruction.ensures in
    let low = rw (c.immediate_digits-first.ensures, c.immediate_digits-second.ensures) at c.put_low_registers.ensures in
    let high = c.put_bytes.ensures in
    (line_t_put a.pc a.word _ _ a.at a.text.now a.out.now _ _ _ instruction low high.0, omega arith)
