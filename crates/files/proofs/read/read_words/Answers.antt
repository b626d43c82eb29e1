use mathlib.Core.Path.{refl}
use Rattle.std.proofs.lemmas.Result.{err_from_is_err_and}
use Rattle.files.proofs.CellLaws.{length-numbers}
use Rattle.files.proofs.AnswerLaws.{file_refused, read-filled, read-refused}
use Rattle.files.proofs.read.read_words.Goals as goal

pub returns-in_err-check_words : goal.returns-in_err-check_words
returns-in_err-check_words g c =
    let p = err_from_is_err_and c.from_residual.result c.from_residual.ensures.1 in
    let size = length-numbers g.C.Cell.number g.C.Cell.numbers g.met.C.Cell.each c.args.memory.now in
    rw (p.1, p.2) (read-refused refl (rw size (rw c.DIGITS.ensures at c.in_err-check_words.ensures)) (file_refused c.in_err-check_words.field-0.0))

pub returns : goal.returns
returns g c =
    let size = length-numbers g.C.Cell.number g.C.Cell.numbers g.met.C.Cell.each c.args.memory.now in
    read-filled refl (rw size (rw c.DIGITS.ensures at c.in_ok-check_words.ensures)) refl (rw size c.fill_words.ensures)
