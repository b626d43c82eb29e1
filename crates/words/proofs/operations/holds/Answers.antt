use Rattle.std.proofs.Common.{◌≡◌, arith}
use Rattle.isa.specs.Operations.{comparison_of}
use Rattle.words.proofs.WordLaws.{reads}
use Rattle.words.proofs.operations.holds.Goals as goal

pub returns-in-9 : goal.returns-in-9
unfolding comparison_of
returns-in-9 c = rw c.in-9.is

pub returns-in-10 : goal.returns-in-10
unfolding comparison_of
returns-in-10 c = rw c.in-10.is

pub returns-in-11 : goal.returns-in-11
unfolding comparison_of
returns-in-11 c = rw (c.in-11.is, reads c.signed.type_inv c.signed.ensures, reads c.signed-in-11.type_inv c.signed-in-11.ensures)

pub returns-in-12 : goal.returns-in-12
unfolding comparison_of
returns-in-12 c = rw (c.in-12.is, reads c.signed-in-12.type_inv c.signed-in-12.ensures, reads c.signed-in-12-2.type_inv c.signed-in-12-2.ensures)

pub returns-in-13 : goal.returns-in-13
unfolding comparison_of
returns-in-13 c = rw (c.in-13.is, reads c.signed-in-13.type_inv c.signed-in-13.ensures, reads c.signed-in-13-2.type_inv c.signed-in-13-2.ensures)

pub returns-in_default : goal.returns-in_default
unfolding comparison_of
returns-in_default c =
    let fourteen : c.args.op ≡ 14 = omega arith in
    rw (fourteen, reads c.signed-in_default.type_inv c.signed-in_default.ensures, reads c.signed-in_default-2.type_inv c.signed-in_default-2.ensures)
