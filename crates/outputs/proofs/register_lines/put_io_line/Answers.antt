use native.Mathlib.Omega.{arith}
use Rattle.isa.proofs.IoLaws.{name-length}
use Rattle.outputs.proofs.RegisterLaws.{word-put}
use Rattle.outputs.proofs.register_lines.put_io_line.Goals as goal

pub put_io_name-value_at-requires : goal.put_io_name-value_at-requires
put_io_name-value_at-requires c = omega (arith, name-length c.args.n)

pub put_last_word-requires : goal.put_last_word-requires
put_last_word-requires c = omega (arith, name-length c.args.n, c.put_io_name-value_at.ensures.1, c.put_io_name-value_at.auto.out)

pub returns : goal.returns
returns c =
    let a = c.args in
    let first = c.put_io_name-value_at.ensures in
    let second = c.put_last_word.ensures in
    let is-put = word-put _ a.x a.at _ _ a.out.now _ _ first second.0 second.1 in
    (is-put.0, is-put.1, omega (arith, name-length a.n, first.1, second.1))
