use Rattle.std.proofs.Common.{ℕ, ◌∙◌, ap, List}
use Rattle.text.specs.Numerals.{low_bytes}
use Rattle.text.specs.Place.{put}
use Rattle.text.proofs.HexWordLaws.{pair-unmoved, pair-bytes}
use Rattle.text.proofs.hex_words.HexTable.put_hex_byte.Goals as goal

pub returns : goal.returns
returns c =
    let a = c.args in
    c.put_two.ensures
    ∙ ap (λ (v : ℕ). put a.out.now a.at (low_bytes 2 v)) (pair-unmoved a.n _ c.pair.ensures)
    ∙ ap (λ (l : List ℕ). put a.out.now a.at l) (pair-bytes a.n c.ranges.n.fits)
