use native.Mathlib.Omega.{arith}
use Rattle.hex_commands.specs.Loading.{most_bytes}
use Rattle.hex_commands.proofs.LoadLaws.{room-above}
use Rattle.hex_commands.proofs.load.room.Goals as goal

pub returns : goal.returns
returns c = room-above most_bytes 1048577 (omega arith)
