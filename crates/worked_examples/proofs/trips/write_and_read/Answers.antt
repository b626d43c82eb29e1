use Rattle.std.proofs.Common.{sym}
use lib.ListN.{length}
use lib.Seq.{length-take-le}
use Rattle.files.proofs.SizeLaws.{part-words, part-within}
use Rattle.worked_examples.proofs.ReturnLaws.{has_room_lem, not_written, placed}
use Rattle.worked_examples.proofs.trips.write_and_read.Goals as goal

pub slice_bounds-read_and_place-end : goal.slice_bounds-read_and_place-end
slice_bounds-read_and_place-end c = (has_room_lem _ _ _ _ c.in-Ok.count c.in-Ok.ensures).1

pub slice_bounds-read_and_place-end-in-Ok : goal.slice_bounds-read_and_place-end-in-Ok
slice_bounds-read_and_place-end-in-Ok c = sym (length-take-le _ _ (has_room_lem _ _ _ _ c.in-Ok.count c.in-Ok.ensures).1)

pub read_and_place-requires : goal.read_and_place-requires
read_and_place-requires c =
    let part = (has_room_lem _ _ _ _ c.in-Ok.count c.in-Ok.ensures).0 in
    let n = length c.args.disk.now in
    (part-words n c.args.sector 1 part, part-within n c.args.sector 1 part, c.requires)

pub returns-in-Ok : goal.returns-in-Ok
returns-in-Ok c =
    let a = c.args in
    placed a.disk.now a.sector a.text.now _ a.words.now c.in-Ok.count c.in-Ok.ensures _ _ _ c.read_and_place.ensures

pub returns-in-Err : goal.returns-in-Err
returns-in-Err c =
    let a = c.args in
    rw c.outcome.ensures (not_written a.disk.now a.sector a.text.now _ a.words.now c.in-Err.error c.in-Err.ensures)
