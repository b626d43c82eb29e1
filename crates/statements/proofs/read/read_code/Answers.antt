use mathlib.Core.Path.{◌≡◌}
use mathlib.Core.Bool.{◌&&◌}
use Rattle.statements.proofs.ReadLaws.{known_read, unknown_read}
use Rattle.statements.proofs.read.read_code.Goals as goal
use Rattle.statements.proofs.read.read_code.Goals.{then-imm1, else-imm1, then-imm1-2, else-imm1-2}

pub returns-in-Some : goal.returns-in-Some
returns-in-Some c =
    let i = c.read_immediate-imm1 in
    let j = c.read_immediate-imm2 in
    let inside : c.if-imm1.inside ≡ (i.result.inside && j.result.inside) =
    elim c.if-imm1.branch [ then-imm1 w ↦ rw (w.inside-is, w.if-imm1.true) | else-imm1 w ↦ rw (w.inside-is, w.if-imm1.false) ] in
    let defined : c.if-imm1-2.defined ≡ (i.result.defined && j.result.defined) =
    elim c.if-imm1-2.branch [ then-imm1-2 w ↦ rw (w.defined-is, w.if-imm1-2.true) | else-imm1-2 w ↦ rw (w.defined-is, w.if-imm1-2.false) ] in
    let o = c.op_at-first.ensures in
    known_read c.args.line.now.formed c.requires o.at c.text.ensures c.text-2.ensures i.ensures j.ensures c.in-Some.n c.in-Some.ensures _ _ _ inside defined
    c.word_with.ensures.fits c.word_with.ensures.word

pub returns-in-None : goal.returns-in-None
returns-in-None c =
    let i = c.read_immediate-imm1 in
    let j = c.read_immediate-imm2 in
    let inside : c.if-imm1.inside ≡ (i.result.inside && j.result.inside) =
    elim c.if-imm1.branch [ then-imm1 w ↦ rw (w.inside-is, w.if-imm1.true) | else-imm1 w ↦ rw (w.inside-is, w.if-imm1.false) ] in
    let defined : c.if-imm1-2.defined ≡ (i.result.defined && j.result.defined) =
    elim c.if-imm1-2.branch [ then-imm1-2 w ↦ rw (w.defined-is, w.if-imm1-2.true) | else-imm1-2 w ↦ rw (w.defined-is, w.if-imm1-2.false) ] in
    let o = c.op_at-first.ensures in
    unknown_read c.args.line.now.formed c.requires o.at c.text.ensures c.text-2.ensures i.ensures j.ensures c.in-None.ensures _ _ inside defined
