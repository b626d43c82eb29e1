use Rattle.bitpack.proofs.WordLaws.{four_stored}
use Rattle.bitpack.proofs.word.put_four.Goals as goal

pub returns : goal.returns
returns c = let a = c.args in
    four_stored a.out.now a.at a.x _ _ _ _ c.low_byte.ensures c.low_byte-2.ensures c.low_byte-3.ensures c.low_byte-4.ensures
