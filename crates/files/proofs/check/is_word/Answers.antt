use mathlib.Core.Path.{◌≡◌, sym, ◌∙◌}
use mathlib.Core.Bool.{true}
use native.Mathlib.Omega.{arith}
use lib.ListN.{length}
use lib.Dec.{leb}
use borrow.Author.Tests.{leb-true}
use Rattle.files.proofs.CheckLaws.{word_short, word_long, word-front}
use Rattle.files.proofs.check.is_word.Goals as goal
use Rattle.files.proofs.check.is_word.Goals.{then-k-text, else-k-text}

pub returns-then-ends_line : goal.returns-then-ends_line
returns-then-ends_line c =
    elim c.if-k-text.branch [
      | then-k-text w ↦ c.all_digits.ensures ∙ word-front c.args.k c.args.text.now w.if-k-text.true (sym w.ends_line.ensures ∙ sym w.value-is ∙ c.if-ends_line.true)
      | else-k-text w ↦ absurd (let short : leb c.args.k (length c.args.text.now) ≡ true = sym w.value-is ∙ c.if-ends_line.true in let le = leb-true _ _ short in let lt = w.if-k-text.false in omega arith)
    ]

pub returns-else-ends_line : goal.returns-else-ends_line
returns-else-ends_line c =
    elim c.if-k-text.branch [
      | then-k-text w ↦ c.if-ends_line.false ∙ word_long c.args.k c.args.text.now (sym w.ends_line.ensures ∙ sym w.value-is ∙ c.if-ends_line.false)
      | else-k-text w ↦ c.if-ends_line.false ∙ word_short c.args.k c.args.text.now w.if-k-text.false
    ]
