use native.Mathlib.Omega.{arith}
use Rattle.text.specs.Numerals.{low_bytes}
use Rattle.text.proofs.HexWordLaws.{length_low}
use Rattle.trace.specs.LogLines.{field}
use Rattle.text.proofs.PieceLaws.{store_after}
use Rattle.trace.proofs.fields.put_last_digits.Goals as goal

pub returns : goal.returns
returns c =
    let a = c.args in
    let w = c.put_digits-end in
    (store_after a.out.now _ a.at _ _ (field (low_bytes 8 a.held)) (simp length_low (omega arith)) w.ensures.0, omega arith)
