use mathlib.Core.Path.{◌∙◌}
use native.Mathlib.Omega.{arith}
use Rattle.lister.proofs.PieceLaws.{piece_size, piece_most}
use Rattle.lister.proofs.table.PieceTable.length.Goals as goal

pub returns : goal.returns
returns c =
    let size = c.held_length.ensures.length ∙ piece_size _ _ (c.args.self.now.held c.args.n c.requires) in
    record { length = size; most = omega (arith, piece_most c.args.n c.requires) }
