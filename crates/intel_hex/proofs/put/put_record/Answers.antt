use native.Mathlib.Omega.{arith}
use Rattle.intel_hex.proofs.PutLaws.{record_put}
use Rattle.intel_hex.proofs.put.put_record.Goals as goal

pub returns : goal.returns
returns c =
    let a = c.args in
    let put = c.put_digits.ensures in
    record_put a.words.now a.address a.out.now a.at c.requires.0 (omega arith) _ _ _ _ (rw c.from-a.ensures at c.put_hex_word.ensures) put.0 (omega (arith, put.1)) c.put_hex_byte.ensures
