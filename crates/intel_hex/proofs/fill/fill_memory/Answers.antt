use mathlib.Core.Path.{◌∙◌}
use native.Mathlib.Omega.{arith}
use lib.ListN.{length}
use Rattle.intel_hex.proofs.FillLaws.{words_turn, words-end}
use Rattle.intel_hex.proofs.fill.fill_memory.Goals as goal

pub loop-i-preserved : goal.loop-i-preserved
loop-i-preserved c =
    let l = c.loop-i in
    let n = length c.args.memory.now in
    words_turn c.args.bytes.now l.memory n l.i (omega arith) _ (omega arith) c.word.ensures ∙ l.invariant

pub returns : goal.returns
returns c =
    let l = c.loop-i in
    words-end c.args.bytes.now l.memory (length c.args.memory.now) l.i (omega arith) (omega arith) ∙ l.invariant
