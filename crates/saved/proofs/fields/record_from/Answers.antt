use native.Mathlib.Omega.{arith}
use Prim.Native.Nat.{◌+◌}
use mathlib.Core.Path.{◌≡◌}
use Rattle.saved.proofs.FieldLaws.{part_length, small-part}
use Rattle.saved.proofs.fields.record_from.Goals as goal

pub shorten-requires-2 : goal.shorten-requires-2
shorten-requires-2 c = let p = c.requires in let room = p.room in (part_length c.args.f.now (c.args.n + 13) 23 (omega arith), small-part c.args.f.now (c.args.n + 13) 23 (λ k. let e : c.args.n + 13 + k ≡ c.args.n + (13 + k) = omega arith in rw e (p.registers (13 + k))))
