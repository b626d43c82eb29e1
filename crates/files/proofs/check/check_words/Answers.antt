use Prim.Native.Nat.{◌+◌, ◌-◌, ◌*◌}
use mathlib.Core.Path.{◌≡◌, sym, ◌∙◌}
use native.Mathlib.Nat.{zero-mul, one-mul, add-mul}
use native.Mathlib.Omega.{arith}
use lib.ListN.{length, take, drop, length-drop}
use lib.Seq.{take_all}
use Rattle.files.specs.MemoryFile.{lines_outcome}
use Rattle.files.proofs.ChunkLaws.{line-inside, lines-past}
use Rattle.files.proofs.CheckLaws.{check_full, check_bad, check_good, check_end}
use Rattle.files.proofs.check.check_words.Goals as goal

pub loop-i-init : goal.loop-i-init
unfolding lines_outcome
loop-i-init c = rw zero-mul

pub returns-then-room-i : goal.returns-then-room-i
returns-then-room-i c =
    let a = c.args in
    let i = c.loop-i.i in
    let inside = line-inside (length a.text.now) (a.k + 1) i (omega arith) (rw c.div_ceil-i-end.ensures at c.loop-i-test.true) in
    check_full a.k a.room a.text.now (i * (a.k + 1)) i inside c.if-room-i.true ∙ c.loop-i.invariant

pub returns-then-not-is_word : goal.returns-then-not-is_word
returns-then-not-is_word c =
    let a = c.args in
    let i = c.loop-i.i in
    let at = i * (a.k + 1) in
    let inside = line-inside (length a.text.now) (a.k + 1) i (omega arith) (rw c.div_ceil-i-end.ensures at c.loop-i-test.true) in
    let rest : take (length a.text.now - at) (drop at a.text.now) ≡ drop at a.text.now = take_all _ (drop at a.text.now) (rw length-drop (omega arith)) in
    check_bad a.k a.room a.text.now at i inside (omega arith) (rw rest at (sym c.is_word.ensures ∙ c.if-not-is_word.true)) ∙ c.loop-i.invariant

pub loop-i-preserved : goal.loop-i-preserved
loop-i-preserved c =
    let a = c.args in
    let i = c.loop-i.i in
    let at = i * (a.k + 1) in
    let inside = line-inside (length a.text.now) (a.k + 1) i (omega arith) (rw c.div_ceil-i-end.ensures at c.loop-i-test.true) in
    let rest : take (length a.text.now - at) (drop at a.text.now) ≡ drop at a.text.now = take_all _ (drop at a.text.now) (rw length-drop (omega arith)) in
    let next : (i + 1) * (a.k + 1) ≡ at + (a.k + 1) = rw (add-mul, one-mul) in
    rw next (check_good a.k a.room a.text.now at i inside (omega arith) (rw rest at (sym c.is_word.ensures ∙ c.if-not-is_word.false)) ∙ c.loop-i.invariant)

pub returns : goal.returns
returns c =
    let a = c.args in
    let i = c.loop-i.i in
    let past = lines-past (length a.text.now) (a.k + 1) i (omega arith) (rw c.div_ceil-i-end.ensures at c.loop-i-test.false) in
    check_end a.k a.room a.text.now (i * (a.k + 1)) i past ∙ c.loop-i.invariant
