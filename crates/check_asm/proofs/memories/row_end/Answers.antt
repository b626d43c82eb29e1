use mathlib.Core.Path.{◌≡◌, refl, sym, ◌∙◌}
use native.Mathlib.Omega.{arith}
use lib.ListN.{length}
use Rattle.check_asm.proofs.RowLaws.{row_more, row_stops, row_ends}
use Rattle.check_asm.proofs.memories.row_end.Goals as goal

pub loop-end-init : goal.loop-end-init
loop-end-init c = (row_more c.args.words.now _ _ c.requires refl, omega arith)

pub returns-then-words-end : goal.returns-then-words-end
returns-then-words-end c = let inv = c.loop-end.invariant in (sym (inv.0 ∙ row_stops _ _ _ (omega arith) c.if-words-end.true), omega arith, omega arith)

pub loop-end-preserved : goal.loop-end-preserved
loop-end-preserved c = let inv = c.loop-end.invariant in (inv.0 ∙ row_more _ _ _ (omega arith) c.if-words-end.false, omega arith)

pub returns : goal.returns
returns c =
    let inv = c.loop-end.invariant in
    let end : length c.args.words.now ≡ c.loop-end.end = omega arith in
    (end ∙ sym (inv.0 ∙ row_ends _ _ _ (omega arith)), omega arith, omega arith)
