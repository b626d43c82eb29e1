-- The lengths of the record's arrays.
use mathlib.Core.Path.{◌≡◌}
use lib.ListN.{length}
use Rattle.saved.specs.Layout.{fields_of}
use Rattle.saved.proofs.PartLaws.{other_io}
use borrow.Author.Rules.{rules}
use Rattle.saved.proofs.fields.fields.Goals as goal

pub returns : goal.returns
unfolding fields_of
returns c =
    let regs_13 : length c.args.r.regs ≡ 13 = search rules in
    let put_13 : length c.widen.new.to ≡ 13 = rw c.widen.ensures (regs_13) in
    rw (other_io c.widen.new.to (put_13) c.widen-2.new.to, c.widen.ensures, c.widen-2.ensures, c.from.ensures, c.from-2.ensures, c.from-3.ensures, c.from-4.ensures, c.from-5.ensures, c.from-6.ensures)
