use mathlib.Core.Path.{refl}
use Rattle.isa.specs.Registers.{io_bits}
use Rattle.saved.specs.Layout.{widths, fields_of}
use Rattle.saved.specs.Sound.{is_sound}
use Rattle.simp.proofs.numbers.unsound_record.Goals as goal

pub returns : goal.returns
unfolding is_sound widths fields_of io_bits
returns c = rw c.fresh_record-r.ensures refl
