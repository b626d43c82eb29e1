use native.Mathlib.Omega.{arith}
use Rattle.lister.proofs.LineLaws.{immediates-put}
use Rattle.lister.proofs.line.put_immediates.Goals as goal

pub returns : goal.returns
returns c =
    let a = c.args in
    let first = c.put_immediate-comma_at.ensures in
    let comma = c.put_comma-second_at.ensures in
    let second = c.put_immediate-end.ensures in
    (immediates-put a.imm1 a.imm2 a.at _ _ _ a.out.now _ _ _ first.1 comma.1 second.1 first.0 comma.0 second.0, omega arith)
