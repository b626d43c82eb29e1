use native.Mathlib.Omega.{arith}
use Rattle.files.proofs.CellLaws.{length-numbers, number_at}
use Rattle.files.proofs.PutLaws.{put_turn, put-end}
use Rattle.files.proofs.put.put_words.Goals as goal

pub loop-word-preserved : goal.loop-word-preserved
loop-word-preserved g c =
    let cell = g.C.Cell in
    let laws = g.met.C.Cell in
    let words = c.args.words.now in
    let size = length-numbers cell.number cell.numbers laws.each words in
    put_turn c.loop-word.invariant (omega arith)
    (number_at cell.number cell.numbers laws.each words c.loop-word.word-index c.word-item.result (omega arith) c.word-item.is c.number.ensures)
    c.put_line.ensures

pub returns : goal.returns
returns g c =
    let size = length-numbers g.C.Cell.number g.C.Cell.numbers g.met.C.Cell.each c.args.words.now in
    rw size at (put-end c.loop-word.invariant (omega arith))
