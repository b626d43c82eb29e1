use mathlib.Core.Path.{◌≡◌}
use Prim.Native.Nat.{◌-◌, ◌≤◌}
use lib.ListN.{length, replicate}
use Rattle.console.specs.Line.{Line, with_pieces}
use Rattle.check_asm.proofs.built.repeat.Given as goal

abbrev pub invariant-loop : goal.invariant-loop
invariant-loop l = (◌≡◌ {A = Line} (with_pieces (record { bytes = l.text; end = l.next }) (replicate (l.times - l.counter) l.line)) (with_pieces (record { bytes = l.initial.text; end = l.at }) (replicate l.times l.line)))
    × (l.next ≤ length l.text)
    × (length l.text ≡ length l.initial.text)
