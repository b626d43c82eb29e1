use mathlib.Core.Path.{sym, ◌∙◌, ap}
use mathlib.Core.List.{List}
use Prim.Native.Nat.{ℕ}
use lib.Dec.{eqb}
use lib.ListN.{length, replicate}
use Rattle.std.proofs.Common.{rules}
use Rattle.std.proofs.lemmas.Iterator.{YieldsList-from_slice}
use Rattle.std.proofs.lemmas.Iterator.Search.{all_from_yields_List}
use Rattle.text.specs.Same.{same}
use Rattle.check_asm.proofs.AllLaws.{all_same}
use Rattle.check_asm.proofs.memories.are_all.Goals as goal

pub returns : goal.returns
returns g c =
    let cell = g.C.Cell in
    let a = c.args in
    let words = a.words.now in
    let n = cell.number a.word in
    all_from_yields_List (λ x. eqb (cell.number x) n) _ _ _ c.all.ensures.ran (YieldsList-from_slice words cc) (λ x b q k. search rules)
    ∙ all_same cell.number n words
    ∙ ap (λ (numbers : List ℕ). same numbers (replicate (length words) n)) (sym (g.met.C.Cell.each words))
