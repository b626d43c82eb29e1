use native.Mathlib.Omega.{arith}
use lib.ListN.{length}
use borrow.Author.Tests.{eqb-true}
use Rattle.files.proofs.FrontLaws.{front_read}
use Rattle.simlog.proofs.read_front.Goals as goal

pub returns : goal.returns
returns c =
    front_read c.args.buffer.now c.args.n c.read_image.ensures c.done.ensures (λ e. omega (arith, eqb-true (length c.args.image.now) 4096 e, c.requires.0))
