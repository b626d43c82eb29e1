use Rattle.std.proofs.Common.{◌-◌, sym, ◌∙◌, arith}
use Rattle.text.proofs.TableLaws.{one-filled}
use Rattle.text.proofs.HexWordLaws.{entry_low, movable, moved_on}
use Rattle.text.proofs.hex_words.move_pairs.Goals as goal

pub loop-n-init : goal.loop-n-init
loop-n-init c = record { room = c.requires.0; within = omega arith; entries = λ k h. c.requires.1 k h ∙ sym (entry_low k h) }

pub moved-requires : goal.moved-requires
moved-requires c = let l = c.loop-n in movable l.words l.n (omega arith) (omega arith) (l.invariant.entries (l.n - 256) (omega arith))

pub loop-n-preserved : goal.loop-n-preserved
loop-n-preserved c = let l = c.loop-n in
    let is = moved_on l.words l.n (omega arith) (omega arith) (l.invariant.entries (l.n - 256) (omega arith)) c.moved.result c.moved.ensures in
    one-filled l.invariant _ (omega arith) (omega arith) is
