use native.Mathlib.Omega.{arith}
use Rattle.text.proofs.DecimalLaws.{count_le}
use Rattle.outputs.proofs.StopLaws.{status-put}
use Rattle.outputs.proofs.status.put_status.Goals as goal

pub put_decimal-between_at-requires : goal.put_decimal-between_at-requires
put_decimal-between_at-requires c = let status = c.args.status in omega (arith, count_le 10 (omega arith) 9 status (omega arith), c.put_bytes-number_at.ensures.1, c.put_bytes-number_at.auto.out)

pub put_bytes-words_at-requires : goal.put_bytes-words_at-requires
put_bytes-words_at-requires c = let status = c.args.status in omega (arith, count_le 10 (omega arith) 9 status (omega arith), c.put_decimal-between_at.ensures.1, c.put_decimal-between_at.auto.out, c.put_bytes-number_at.ensures.1, c.put_bytes-number_at.auto.out)

pub put_status_words-requires : goal.put_status_words-requires
put_status_words-requires c = let status = c.args.status in omega (arith, count_le 10 (omega arith) 9 status (omega arith), c.put_bytes-words_at.ensures.1, c.put_bytes-words_at.auto.out, c.put_decimal-between_at.ensures.1, c.put_decimal-between_at.auto.out, c.put_bytes-number_at.ensures.1, c.put_bytes-number_at.auto.out)

pub returns : goal.returns
returns c =
    let a = c.args in
    let first = c.put_bytes-number_at.ensures in
    let second = c.put_decimal-between_at.ensures in
    let third = c.put_bytes-words_at.ensures in
    let fourth = c.put_status_words.ensures in
    let is-put = status-put a.front.now a.between.now a.status a.at _ _ _ _ a.out.now _ _ _ _ first second.0 second.1 third (fourth.0, fourth.1) in
    (is-put.0, is-put.1, omega (arith, count_le 10 (omega arith) 9 a.status (omega arith), first.1, second.1, third.1, fourth.2))
