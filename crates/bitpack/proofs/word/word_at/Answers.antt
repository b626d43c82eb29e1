use Rattle.bitpack.proofs.ByteLaws.{all-bytes}
use Rattle.bitpack.proofs.WordLaws.{word_read}
use Rattle.bitpack.proofs.word.word_at.Goals as goal

pub returns : goal.returns
returns c = let s = c in
    let bytes = all-bytes c.args.bytes.now (λ i. (c.shared_slice_known-1.given i).fits) in
    word_read c.args.bytes.now bytes c.args.i _ _ _ _ _ _ _ c.requires c.from.ensures c.from-2.ensures c.from-3.ensures c.from-4.ensures c.append-two.ensures c.append-three.ensures c.append.ensures
