use Rattle.lister.proofs.PieceLaws.{register-there}
use Rattle.lister.proofs.pieces.register_place.Goals as goal

pub returns-clause-piece : goal.returns-clause-piece
returns-clause-piece c = register-there c.args.n
