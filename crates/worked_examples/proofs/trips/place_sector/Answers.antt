use Prim.Native.Nat.{◌*◌}
use native.Mathlib.Omega.{arith}
use Rattle.text.proofs.PutLaws.{put-part}
use Rattle.worked_examples.proofs.trips.place_sector.Goals as goal

pub returns : goal.returns
returns c =
    let a = c.args in
    rw c.copy_from_slice.ensures.after (put-part a.disk.now a.words.now (128 * a.sector) 128 c.requires.2 (omega arith))
