use Prim.Native.Nat.{◌-◌, ◌*◌}
use mathlib.Core.Path.{◌≡◌}
use mathlib.Core.List.{◌++◌}
use lib.ListN.{length, take, drop}
use Rattle.intel_hex.specs.Words.{words_of}
use Rattle.intel_hex.proofs.fill.fill_memory.Given as goal

abbrev pub invariant-loop-i : goal.invariant-loop-i
invariant-loop-i l = take l.i l.memory ++ words_of (length l.initial.memory - l.i) (drop (4 * l.i) l.bytes) ≡ words_of (length l.initial.memory) l.bytes
