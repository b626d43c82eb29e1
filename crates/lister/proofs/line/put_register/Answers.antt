use native.Mathlib.Omega.{arith}
use Rattle.lister.proofs.LineLaws.{register_least, register-put}
use Rattle.lister.proofs.line.put_register.Goals as goal

pub put-requires-clause-room : goal.put-requires-clause-room
put-requires-clause-room c = omega (arith, register_least c.args.n c.requires.0)

pub returns : goal.returns
returns c =
    let there = c.register_place.ensures.piece in
    let is-put = rw there at c.put.ensures.piece in
    let end = rw there at c.put.ensures.end in
    (register-put c.args.n _ _ c.args.at _ c.requires.0 is-put, end)
