use mathlib.Core.Path.{◌∙◌}
use native.Mathlib.Omega.{arith}
use Rattle.lister.proofs.ListingLaws.{length_turn, length-end, put_turn, put-end}
use Rattle.lister.proofs.listing.put_lines.Goals as goal

pub put_line-at-requires : goal.put_line-at-requires
put_line-at-requires c =
    let l = c.loop-word in
    let line = length_turn c.args.words.now l.word-index (omega arith) in
    omega arith

pub loop-word-preserved : goal.loop-word-preserved
loop-word-preserved c =
    let l = c.loop-word in
    let ws = c.args.words.now in
    let p = c.put_line-at in
    let line = length_turn ws l.word-index (omega arith) in
    record {
      text = put_turn ws l.word-index l.out _ l.at _ (omega arith) p.ensures.0 p.ensures.1 ∙ l.invariant.text;
      room = omega (arith, p.auto);
      end = omega arith;
    }

pub returns : goal.returns
returns c =
    let l = c.loop-word in
    let ws = c.args.words.now in
    let none = length-end ws l.word-index (omega arith) in
    record { text = put-end ws l.word-index l.out l.at (omega arith) ∙ l.invariant.text; end = omega arith }
