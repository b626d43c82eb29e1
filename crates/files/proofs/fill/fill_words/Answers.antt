use Prim.Native.Nat.{◌+◌, ◌-◌, ◌*◌, ◌≤◌}
use mathlib.Core.Path.{◌≡◌}
use native.Mathlib.Nat.{one-le-pow, zero-mul, one-mul, add-mul, le_refl}
use native.Mathlib.Omega.{arith}
use lib.ListN.{length, take, drop, length-drop}
use lib.Seq.{take_all}
use Rattle.files.proofs.CellLaws.{length-numbers, numbers-set, numbers-filled}
use Rattle.files.proofs.CheckLaws.{word-part, word-all, word_fits}
use Rattle.files.proofs.ChunkLaws.{line-inside, lines-past}
use Rattle.files.proofs.FillLaws.{fill_start, fill_room, fill_word, fill_fits, fill_small, fill_turn, fill_end}
use Rattle.files.proofs.fill.fill_words.Goals as goal

pub loop-i-init : goal.loop-i-init
loop-i-init g c =
    rw zero-mul (fill_start c.requires (length-numbers g.C.Cell.number g.C.Cell.numbers g.met.C.Cell.each c.args.memory.now))

pub slice_bounds-value_of-end : goal.slice_bounds-value_of-end
slice_bounds-value_of-end g c =
    let k = g.C.Cell.DIGITS in
    let text = c.args.text.now in
    let i = c.loop-i.i in
    let inside = line-inside (length text) (k + 1) i (omega arith) (rw (c.div_ceil-lines.ensures, c.DIGITS-k.ensures) at c.loop-i-test.true) in
    let l = c.loop-i.invariant in
    let fits : i * (c.DIGITS-k.result + 1) + c.DIGITS-k.result ≤ length text = rw c.DIGITS-k.ensures (fill_fits l inside) in
    omega (arith, fits)

pub value_of-requires : goal.value_of-requires
value_of-requires g c =
    let k = g.C.Cell.DIGITS in
    let text = c.args.text.now in
    let i = c.loop-i.i in
    let inside = line-inside (length text) (k + 1) i (omega arith) (rw (c.div_ceil-lines.ensures, c.DIGITS-k.ensures) at c.loop-i-test.true) in
    let l = c.loop-i.invariant in
    let good = fill_word l inside in
    rw (c.DIGITS-k.ensures, word-part k text (i * (k + 1)) good) (word-all k text (i * (k + 1)) good, word_fits k text (i * (k + 1)) good g.met.C.Cell.few)

pub of-requires : goal.of-requires
of-requires g c =
    let k = g.C.Cell.DIGITS in
    let text = c.args.text.now in
    let i = c.loop-i.i in
    let inside = line-inside (length text) (k + 1) i (omega arith) (rw (c.div_ceil-lines.ensures, c.DIGITS-k.ensures) at c.loop-i-test.true) in
    let l = c.loop-i.invariant in
    let part = word-part k text (i * (k + 1)) (fill_word l inside) in
    fill_small l inside k (le_refl k) (rw (c.DIGITS-k.ensures, part) at c.value_of.ensures)

pub bounds-memory-i : goal.bounds-memory-i
bounds-memory-i g c =
    let k = g.C.Cell.DIGITS in
    let text = c.args.text.now in
    let i = c.loop-i.i in
    let inside = line-inside (length text) (k + 1) i (omega arith) (rw (c.div_ceil-lines.ensures, c.DIGITS-k.ensures) at c.loop-i-test.true) in
    let l = c.loop-i.invariant in
    rw (← length-numbers g.C.Cell.number g.C.Cell.numbers g.met.C.Cell.each c.loop-i.memory) (fill_room l inside)

pub loop-i-preserved : goal.loop-i-preserved
loop-i-preserved g c =
    let k = g.C.Cell.DIGITS in
    let text = c.args.text.now in
    let i = c.loop-i.i in
    let inside = line-inside (length text) (k + 1) i (omega arith) (rw (c.div_ceil-lines.ensures, c.DIGITS-k.ensures) at c.loop-i-test.true) in
    let l = c.loop-i.invariant in
    let part = word-part k text (i * (k + 1)) (fill_word l inside) in
    let next : (i + 1) * (k + 1) ≡ i * (k + 1) + (k + 1) = rw (add-mul, one-mul) in
    rw (next, numbers-set g.C.Cell.number g.C.Cell.numbers g.met.C.Cell.each, c.of.ensures) (fill_turn l inside (rw (c.DIGITS-k.ensures, part) at c.value_of.ensures))

pub of-requires-2 : goal.of-requires-2
of-requires-2 g c = one-le-pow g.C.Cell.DIGITS 16 (omega arith)

pub returns : goal.returns
returns g c =
    let k = g.C.Cell.DIGITS in
    let text = c.args.text.now in
    let i = c.loop-i.i in
    let lines = c.div_ceil-lines.result in
    let memory = c.loop-i.memory in
    let past = lines-past (length text) (k + 1) i (omega arith) (rw (c.div_ceil-lines.ensures, c.DIGITS-k.ensures) at c.loop-i-test.false) in
    let all : i ≡ lines = omega arith in
    let count = length-numbers g.C.Cell.number g.C.Cell.numbers g.met.C.Cell.each memory in
    let most : length (drop lines memory) ≤ length memory - lines = rw length-drop (omega arith) in
    let part : length (take (length memory - lines) (drop lines memory)) ≡ length memory - lines = rw (take_all _ (drop lines memory) most, length-drop) in
    let filled = c.fill.ensures.after (λ y. g.met.C.Cell.same c.of-2.result y) in
    let none : length (drop (length memory - lines) (drop lines memory)) ≡ 0 = rw (length-drop, length-drop) (omega arith) in
    fill_end c.loop-i.invariant past
    (rw (all, count) (numbers-filled g.C.Cell.number g.C.Cell.numbers g.met.C.Cell.each memory c.fill.new.self (drop (length memory - lines) (drop lines memory)) lines (length memory)
    c.of-2.result c.of-2.ensures (rw part at filled) none))
