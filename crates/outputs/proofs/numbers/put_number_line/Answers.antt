use native.Mathlib.Omega.{arith}
use Rattle.text.proofs.DecimalLaws.{count_le}
use Rattle.outputs.proofs.PieceLaws.{ended, numbered}
use Rattle.outputs.proofs.numbers.put_number_line.Goals as goal

pub put_decimal-end-requires : goal.put_decimal-end-requires
put_decimal-end-requires c = let v = c.args.v in omega (arith, count_le 10 (omega arith) 19 v (omega arith), c.put_bytes-number_at.ensures.1, c.put_bytes-number_at.auto.out)

pub bounds-out-end : goal.bounds-out-end
bounds-out-end c = let v = c.args.v in omega (arith, count_le 10 (omega arith) 19 v (omega arith), c.put_decimal-end.ensures.1, c.put_decimal-end.auto.out, c.put_bytes-number_at.ensures.1, c.put_bytes-number_at.auto.out)

pub overflow_add-result : goal.overflow_add-result
overflow_add-result c = let v = c.args.v in omega (arith, count_le 10 (omega arith) 19 v (omega arith), c.put_decimal-end.ensures.1, c.put_bytes-number_at.ensures.1)

pub returns : goal.returns
returns c =
    let a = c.args in
    let first = c.put_bytes-number_at.ensures in
    let second = c.put_decimal-end.ensures in
    let is-put = ended a.out.now _ a.at _ _ (numbered a.front.now a.v a.at _ _ a.out.now _ _ first second.0 second.1) in
    (is-put.0, is-put.1, omega (arith, count_le 10 (omega arith) 19 a.v (omega arith), first.1, second.1))
