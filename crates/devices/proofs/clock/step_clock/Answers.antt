use Rattle.std.proofs.Common.{refl}
use Rattle.devices.specs.Devices.{clocked}
use Rattle.devices.proofs.clock.step_clock.Goals as goal

pub returns : goal.returns
unfolding clocked
returns c = refl
