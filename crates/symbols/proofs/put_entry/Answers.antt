use native.Mathlib.Omega.{arith}
use Rattle.symbols.specs.Keys.{slot_of}
use Rattle.symbols.proofs.AddLaws.{known_added, first_added}
use Rattle.symbols.proofs.put_entry.Goals as goal

pub returns-then-recent : goal.returns-then-recent
returns-then-recent c =
    let r = c.requires in
    let added = known_added r.sound r.order r.within r.room c.args.key r.key (r.recent c.if-recent.true) in
    record { sound = added.0; names = added.1; room = added.2 }

pub returns : goal.returns
returns c =
    let r = c.requires in
    let added = first_added r.sound r.order r.within r.room c.args.key r.key (slot_of c.args.key) (omega arith) in
    record { sound = added.0; names = added.1; room = added.2 }
