use mathlib.Core.List.{[]}
use Rattle.commands.proofs.assembling.put_written.Goals as goal

pub returns-in-Neither : goal.returns-in-Neither
returns-in-Neither c = record { first = []; second = []; is-put = rw c.in-Neither.is c.put_if_room.ensures }
