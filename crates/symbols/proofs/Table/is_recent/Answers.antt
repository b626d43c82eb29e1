use Prim.Native.Nat.{◌-◌}
use Rattle.symbols.specs.Keys.{slot_of}
use Rattle.symbols.specs.Table.{recent_of}
use Rattle.symbols.proofs.FindLaws.{name-among}
use Rattle.symbols.proofs.Table.is_recent.Goals as goal

pub returns-then-link-gt0 : goal.returns-then-link-gt0
returns-then-link-gt0 c =
    let t = c.args.self.now in
    name-among t.source.now t.words.now t.count (recent_of t.words.now (slot_of c.args.key) - 1) c.args.t.now c.is_entry.result c.is_entry.ensures
