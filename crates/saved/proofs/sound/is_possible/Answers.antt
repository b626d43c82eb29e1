-- The lengths of the record's arrays.
use Rattle.std.proofs.Common.{◌≡◌, true, eqb, length, rules}
use borrow.Author.Tests.{eq-eqb, le-leb, lt-leb}
use Rattle.saved.specs.Sound.{is_sound}
use Rattle.saved.proofs.sound.is_possible.Goals as goal

pub returns-then-r-le-MOST_STATUS : goal.returns-then-r-le-MOST_STATUS
unfolding is_sound
returns-then-r-le-MOST_STATUS c =
    let regs_13 : length c.args.r.regs ≡ 13 = search rules in
    let io_23 : length c.args.r.io ≡ 23 = search rules in
    rw (eq-eqb _ 13 regs_13, eq-eqb _ 23 io_23, c.requires, le-leb c.args.r.core.status 5 c.if-r-le-MOST_STATUS.true) c.is_sound_drive.ensures

pub returns-else-r-le-MOST_STATUS : goal.returns-else-r-le-MOST_STATUS
unfolding is_sound
returns-else-r-le-MOST_STATUS c =
    let regs_13 : length c.args.r.regs ≡ 13 = search rules in
    let io_23 : length c.args.r.io ≡ 23 = search rules in
    rw (eq-eqb _ 13 regs_13, eq-eqb _ 23 io_23, c.requires, lt-leb c.args.r.core.status 5 c.if-r-le-MOST_STATUS.false)
