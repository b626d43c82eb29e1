use native.Mathlib.Omega.{arith}
use Rattle.lister.proofs.ListingLaws.{length_turn, length-end}
use Rattle.lister.proofs.listing.text_length.Goals as goal

pub loop-word-preserved : goal.loop-word-preserved
loop-word-preserved c =
    let l = c.loop-word in
    let line = length_turn c.args.words.now l.word-index (omega arith) in
    (omega arith, omega arith)

pub returns : goal.returns
returns c =
    let l = c.loop-word in
    let none = length-end c.args.words.now l.word-index (omega arith) in
    omega arith
