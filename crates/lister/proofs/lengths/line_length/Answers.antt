use Prim.Native.Nat.{◌+◌}
use mathlib.Core.Path.{◌≡◌}
use native.Mathlib.Omega.{arith}
use lib.ListN.{length}
use Rattle.lister.specs.Listing.{listed_line}
use Rattle.lister.proofs.LineLaws.{length-line, line_most, length-operation, length-register}
use Rattle.lister.proofs.lengths.line_length.Goals as goal

pub returns : goal.returns
returns c =
    let f = c.decode-f.result in
    let word = c.args.word in
    let op = rw c.operation_place.ensures.piece at c.length.ensures.length in
    let whole = length-line word f c.decode-f.ensures in
    let total : c.length.result + (c.register_length.result + c.register_length-2.result + c.register_length-3.result + c.register_length-4.result) + (c.immediate_length.result + c.immediate_length-2.result) + 3 ≡ length (listed_line word) + 1 =
    omega (arith, op, length-operation f.op, length-register f.rd, length-register f.rs, length-register f.rt, length-register f.rm) in
    record { length = total; most = omega (arith, total, line_most word) }
