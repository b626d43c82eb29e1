use mathlib.Core.Path.{refl}
use Rattle.text.specs.Numerals.{low_bytes}
use Rattle.text.specs.Same.{same}
use Rattle.isa.specs.Operations.{operation_name}
use Rattle.isa.specs.Registers.{register_name}
use Rattle.lister.specs.Pieces.{piece_at}
use Rattle.lister.proofs.PieceLaws.{pieces_rule}
use Rattle.lister.proofs.table.PieceTable.new.Goals as goal

pub invariant_of-result : goal.invariant_of-result
unfolding same low_bytes piece_at operation_name register_name
invariant_of-result c = record { held = pieces_rule c.eights.ensures refl }
