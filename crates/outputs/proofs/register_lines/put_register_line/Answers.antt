use native.Mathlib.Omega.{arith}
use Rattle.outputs.proofs.RegisterLaws.{word-put}
use Rattle.outputs.proofs.register_lines.put_register_line.Goals as goal

pub returns : goal.returns
returns c =
    let a = c.args in
    let name = c.register_name.ensures in
    let first = rw name.is at c.put_bytes-value_at.ensures in
    let second = c.put_last_word.ensures in
    let is-put = word-put _ a.x a.at _ _ a.out.now _ _ first second.0 second.1 in
    (is-put.0, is-put.1, omega (arith, name.three, c.put_bytes-value_at.ensures.1, second.1))
