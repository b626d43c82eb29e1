-- What a cycle asks of what it is lent holds again after it. Assumes nothing.
use Prim.Native.Nat.{ℕ, ◌-◌, ◌^◌, ◌<◌}
use mathlib.Core.Path.{◌≡◌, sym, ◌∙◌, ap, subst}
use mathlib.Core.Bool.{Bool}
use mathlib.Core.List.{List}
use lib.ListN.{drop}
use Rattle.machine.specs.declared.Core.{Core}
use Rattle.machine.specs.State.{Machine}
use Rattle.machine.specs.Cycle.{stepped}
use Rattle.machine.specs.Log.{Traced, traced, traced_on}
use Rattle.machine.specs.Soundness.{Sound}
use Rattle.executor.specs.Lent.{Sized, packed}
use Rattle.machine.proofs.SoundLaws.{SoundMachine, sound-cycle}
use Rattle.machine.proofs.MemoryLaws.{KeepsLengths, lengths-kept}

-- What a cycle asks of the parts that it is lent.
pub record Turning (c : Core) (regs io memory disk frame : List ℕ) : Type 0 where
  pub sound : Sound c (drop 3 regs) io
  pub sized : Sized memory disk frame

module _ (image : List ℕ) (hit : Bool) (m n : Machine) (log log' : List ℕ) (at at' : ℕ) (e : traced n log' at' ≡ traced_on image hit (traced m log at)) (s : SoundMachine (2 ^ 40) m) where
  moved : n ≡ stepped image hit m
  unfolding traced_on
  moved = ap (λ (t : Traced). t.machine) e

  sound-after : m.core.age < 2 ^ 40 - 1 → SoundMachine (2 ^ 40) n
  sound-after young = subst (SoundMachine (2 ^ 40)) (sym moved) (sound-cycle image hit m s young)

  lengths-after : KeepsLengths m n
  lengths-after = subst (KeepsLengths m) (sym moved) (lengths-kept image hit m)

-- One turn of the loop.
pub turn : (image : List ℕ) (hit : Bool) (c d : Core) (regs regs' io io' memory memory' disk disk' frame frame' log log' : List ℕ) (at at' : ℕ)
    → Turning c regs io memory disk frame
    → c.age < 2 ^ 40 - 1
    → traced (packed d regs' io' memory' disk' frame') log' at' ≡ traced_on image hit (traced (packed c regs io memory disk frame) log at)
    → Turning d regs' io' memory' disk' frame'
turn image hit c d regs regs' io io' memory memory' disk disk' frame frame' log log' at at' r young e =
    let m = packed c regs io memory disk frame in
    let n = packed d regs' io' memory' disk' frame' in
    let s : SoundMachine (2 ^ 40) m = record { record_is = r.sound } in
    let after = (sound-after image hit m n log log' at at' e s young).record_is in
    let sizes = lengths-after image hit m n log log' at at' e s in
    let z = r.sized in
    record {
      sound = after;
      sized = record { memory_size = sizes.memory ∙ z.memory_size; disk_size = sizes.disk ∙ z.disk_size; frame_size = sizes.frame ∙ z.frame_size };
    }
