use Rattle.source.proofs.NumberLaws.{digits-fit}
use Rattle.source.proofs.numbers.digits_up_to.Goals as goal

pub read_digits-requires : goal.read_digits-requires
read_digits-requires c = let r = c.requires in (r.base, digits-fit c.args.base c.args.most c.args.s.now r.some r.room c.if-most-s.false)
