use Prim.Native.Nat.{ℕ, ◌+◌}
use mathlib.Core.Path.{◌≡◌, ◌∙◌, ap}
use native.Mathlib.Omega.{arith}
use lib.ListN.{length}
use Rattle.lister.specs.Pieces.{piece_at}
use Rattle.lister.proofs.PieceLaws.{piece_size, piece_most, covered}
use Rattle.lister.proofs.table.PieceTable.put.Goals as goal

pub returns : goal.returns
returns c =
    let a = c.args in
    let held = a.self.now.held a.n c.requires.place in
    let size = c.held_length.ensures.length ∙ piece_size _ _ held in
    let place : a.at + c.held_length.result ≡ a.at + length (piece_at a.n) = ap (λ (k : ℕ). a.at + k) size in
    record { piece = covered _ _ held a.out.now _ a.at _ (omega (arith, piece_most a.n c.requires.place)) c.put_eight.ensures place; end = place }
