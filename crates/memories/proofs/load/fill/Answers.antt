use native.Mathlib.Omega.{arith}
use Rattle.files.proofs.FrontLaws.{front_read}
use Rattle.memories.proofs.load.fill.Goals as goal

pub returns : goal.returns
returns g c =
    λ is_right reader. front_read c.args.buffer.now c.args.n (reader.reads _ _ _ _ c.read.ensures) c.done.ensures (λ e. omega (arith, reader.few _ e, c.requires.long))
