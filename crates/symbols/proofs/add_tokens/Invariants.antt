use mathlib.Core.Path.{◌≡◌}
use Prim.Native.Nat.{◌-◌}
use lib.ListN.{length}
use Rattle.symbols.proofs.TokenLaws.{Adding}
use Rattle.symbols.proofs.add_tokens.Given as goal

abbrev pub invariant-loop-s : goal.invariant-loop-s
invariant-loop-s l = (l.table.source.now ≡ l.names) × Adding l.names l.table.words.now l.fn.words l.p l.table.count

abbrev pub decreases-loop-s : goal.decreases-loop-s
decreases-loop-s l = length l.names - l.p
