use native.Mathlib.Omega.{arith}
use Rattle.text.specs.Numerals.{digits}
use Rattle.text.proofs.DigitLaws.{length_digits}
use Rattle.trace.specs.LogLines.{field}
use Rattle.text.proofs.PieceLaws.{store_after}
use Rattle.outputs.proofs.last_word.put_last_word.Goals as goal

pub returns : goal.returns
returns c =
    let a = c.args in
    let w = c.put_word-end in
    (store_after a.out.now _ a.at _ _ (field (digits 16 8 a.x)) (simp length_digits (omega arith)) w.ensures.0, omega arith)
