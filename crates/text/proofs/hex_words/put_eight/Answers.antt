use mathlib.Core.Path.{◌∙◌}
use Rattle.text.proofs.HexWordLaws.{put_low}
use Rattle.text.proofs.hex_words.put_eight.Goals as goal

pub returns : goal.returns
returns c = let a = c.args in
    let d = a.out.now in
    let two = c.put_two.ensures in
    let four = c.put_two-2.ensures ∙ put_low d _ a.at 2 2 a.v two in
    let six = c.put_two-3.ensures ∙ put_low d _ a.at 4 2 a.v four in
    c.put_two-4.ensures ∙ put_low d _ a.at 6 2 a.v six
