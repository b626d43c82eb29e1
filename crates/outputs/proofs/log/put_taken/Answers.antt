use native.Mathlib.Omega.{arith}
use Rattle.text.proofs.PutLaws.{puts_nothing}
use Rattle.outputs.proofs.LogLaws.{none_empty, none_other, letter_put, rest_put}
use Rattle.outputs.proofs.log.put_taken.Goals as goal

pub returns-in-empty : goal.returns-in-empty
returns-in-empty c = let a = c.args in let is-put = puts_nothing a.out.now a.at _ (none_empty a.letter a.line.now (omega arith)) in (is-put.0, is-put.1, omega arith)

pub returns-in-len1-up : goal.returns-in-len1-up
returns-in-len1-up c = let a = c.args in let is-put = puts_nothing a.out.now a.at _ (none_other a.letter a.line.now c.if-first-letter.true) in (is-put.0, is-put.1, omega arith)

pub returns-in-len1 : goal.returns-in-len1
returns-in-len1 c =
    let a = c.args in
    let is-put = letter_put a.letter a.line.now a.out.now a.at c.if-first-letter.false (omega (arith, c.in-len1.len_at_least, c.in-len1.len_below)) in
    (is-put.0, is-put.1, omega arith)

pub returns-in-len2-up : goal.returns-in-len2-up
returns-in-len2-up c =
    let a = c.args in
    let p = c.put_bytes-end.ensures in
    let is-put = rest_put a.letter a.line.now a.out.now a.at c.if-first-letter.false _ _ (omega (arith, c.in-len2-up.len_at_least)) p.0 p.1 in
    (is-put.0, is-put.1, omega (arith, p.1))
