use Prim.Native.Nat.{ℕ, ◌*◌}
use mathlib.Core.Path.{ap, ◌∙◌}
use native.Mathlib.Omega.{arith}
use Rattle.text.specs.Place.{put}
use Rattle.bitpack.specs.Packed.{bytes_of}
use Rattle.bitpack.proofs.WordLaws.{word-place}
use Rattle.bitpack.proofs.word.put_word.Goals as goal

pub returns : goal.returns
returns c = let s = c in
    let word = c.from.ensures ∙ c.make_word.ensures ∙ word-place c.args.widths.now c.args.values.now c.args.k _ (omega (arith, c.requires.1)) in
    c.put_four.ensures ∙ ap (λ (x : ℕ). put c.args.out.now (4 * c.args.k) (bytes_of 4 x)) word
