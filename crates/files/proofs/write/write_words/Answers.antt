use Prim.Native.Nat.{◌+◌, ◌*◌}
use mathlib.Core.Path.{◌≡◌, refl, sym, ◌∙◌}
use native.Mathlib.Nat.{zero-add}
use lib.ListN.{length}
use Rattle.files.specs.MemoryFile.{file_text}
use Rattle.files.proofs.CellLaws.{length-numbers}
use Rattle.files.proofs.PutLaws.{length-text}
use Rattle.files.proofs.AnswerLaws.{no_room, wrote}
use Rattle.files.proofs.write.write_words.Goals as goal

pub returns-then-text-words : goal.returns-then-text-words
returns-then-text-words g c =
    let cell = g.C.Cell in
    let size : length (file_text cell.DIGITS (cell.numbers c.args.words.now)) ≡ length c.args.words.now * (cell.DIGITS + 1)
    = rw (length-text, length-numbers cell.number cell.numbers g.met.C.Cell.each c.args.words.now) in
    no_room refl (rw size (rw c.DIGITS.ensures at c.if-text-words.true))

pub returns : goal.returns
returns g c =
    let cell = g.C.Cell in
    let size : length (file_text cell.DIGITS (cell.numbers c.args.words.now)) ≡ length c.args.words.now * (cell.DIGITS + 1)
    = rw (length-text, length-numbers cell.number cell.numbers g.met.C.Cell.each c.args.words.now) in
    let put = rw c.DIGITS-2.ensures at c.put_words.ensures in
    wrote refl (rw size (rw c.DIGITS.ensures at c.if-text-words.false)) (put.1 ∙ rw zero-add (sym size)) put.0
