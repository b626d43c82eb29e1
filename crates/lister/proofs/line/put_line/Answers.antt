use native.Mathlib.Omega.{arith}
use Rattle.lister.proofs.LineLaws.{fits, length_pieces, line-put}
use Rattle.lister.proofs.line.put_line.Goals as goal

pub put-registers_at-requires-clause-room : goal.put-registers_at-requires-clause-room
put-registers_at-requires-clause-room c =
    let whole = length_pieces c.args.word _ c.decode-f.ensures in
    omega (arith, c.requires)

pub put_registers-immediates_at-requires : goal.put_registers-immediates_at-requires
put_registers-immediates_at-requires c =
    let d = c.decode-f in
    let f = fits c.args.word _ d.ensures in
    let whole = length_pieces c.args.word _ d.ensures in
    let end = rw c.operation_place.ensures.piece at c.put-registers_at.ensures.end in
    (f.rd, f.rs, f.rt, f.rm, omega (arith, c.requires))

pub put_immediates-requires : goal.put_immediates-requires
put_immediates-requires c =
    let d = c.decode-f in
    let f = fits c.args.word _ d.ensures in
    let whole = length_pieces c.args.word _ d.ensures in
    let end = rw c.operation_place.ensures.piece at c.put-registers_at.ensures.end in
    (f.imm1, (f.imm2, omega (arith, c.requires)))

pub returns : goal.returns
returns c =
    let a = c.args in
    let d = c.decode-f in
    let there = c.operation_place.ensures.piece in
    let name = rw there at c.put-registers_at.ensures.piece in
    let end = rw there at c.put-registers_at.ensures.end in
    let registers = c.put_registers-immediates_at.ensures in
    let immediates = c.put_immediates.ensures in
    let whole = length_pieces a.word _ d.ensures in
    (line-put a.word _ a.at _ _ a.out.now _ _ _ d.ensures name registers.0 immediates.0, omega arith)
