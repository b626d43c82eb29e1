use Rattle.worked_examples.proofs.ReturnLaws.{not_saved, not_loaded, loaded}
use Rattle.worked_examples.proofs.trips.save_and_load.Goals as goal

pub returns-in-Err : goal.returns-in-Err
returns-in-Err c =
    let a = c.args in
    not_saved a.r a.bytes.now _ c.in-Err.error c.in-Err.ensures _ (rw c.refused_trip.ensures (rw c.outcome.ensures))

pub returns-in-Ok : goal.returns-in-Ok
returns-in-Ok c =
    let a = c.args in
    rw c.accepted.ensures (loaded a.r a.bytes.now _ c.in_default.ensures c.in-Ok.read c.in-Ok.ensures)

pub returns-in-Err-load : goal.returns-in-Err-load
returns-in-Err-load c =
    let a = c.args in
    not_loaded a.r a.bytes.now _ c.in_default.ensures c.in-Err-load.error c.in-Err-load.ensures _ (rw c.refused_trip-in-Err-load.ensures (rw c.outcome-in-Err-load.ensures))
