use Rattle.std.proofs.Common.{refl}
use Rattle.devices.specs.Disk.{freed}
use Rattle.devices.proofs.disk.free_disk.Goals as goal

pub returns : goal.returns
unfolding freed
returns c = refl
