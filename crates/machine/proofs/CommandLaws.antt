-- A disk command of this computer over its 1,024 cycles. Assumes nothing.
use Prim.Native.Nat.{ℕ, zero, suc, ◌+◌, ◌*◌, ◌^◌, ◌-◌, ◌%◌, ◌≤◌, ◌<◌}
use mathlib.Core.Path.{◌≡◌, sym, subst}
use mathlib.Core.Bool.{Bool, true}
use mathlib.Core.List.{List}
use native.Mathlib.Omega.{arith}
use Rattle.devices.specs.Bus.{Bus}
use Rattle.devices.specs.Transfer.{Cycled, Busy, GotFree, NoWord, WordMoved}
use Rattle.devices.proofs.CommandLaws.{busy-at as busy-at-any, free-at as free-at-any, word_moves as word-moves-any, no_other as no-other-any, none_in_c as none_any}
use Rattle.isa.specs.Registers.{disksector, diskbuffer}
use Rattle.machine.specs.State.{Machine, bus_of, io_at}
use Rattle.machine.specs.Execution.{fetched_and_executed}
use Rattle.machine.specs.Cycle.{accepts_at_fetch, command_at_fetch, at_fetch, stepped}
use Rattle.machine.proofs.SoundLaws.{SoundMachine, sound-cycle, cycled, was_free, busy-accepted}

-- m 0 is sound and makes cycle c, which accepts a command; m (suc j) is the machine after cycle c+j. So many cycles are made after c, none at the
-- cycle limit.
module _ (image : List ℕ) (hit : ℕ → Bool) (m : ℕ → Machine) (made : ℕ) (sound : SoundMachine (2 ^ 40) (m 0))
    (young : (j : ℕ) → j ≤ made → (m j).core.age < 2 ^ 40 - 1)
    (next : (j : ℕ) → j ≤ made → m (suc j) ≡ stepped image (hit j) (m j))
    (accepts : accepts_at_fetch image (at_fetch (hit 0) (m 0)) ≡ true) where
  -- The bus after step 4 of cycle c+j, and after the cycle.
  abbrev four : ℕ → Bus
  four j = bus_of (fetched_and_executed image (at_fetch (hit j) (m j)))

  abbrev after : ℕ → Bus
  after j = bus_of (m (suc j))

  sound-at : (j : ℕ) → j ≤ suc made → SoundMachine (2 ^ 40) (m j)
  sound-at zero h = sound
  sound-at (suc j) h = subst (SoundMachine (2 ^ 40)) (sym (next j (omega arith))) (sound-cycle image (hit j) (m j) (sound-at j (omega arith)) (young j (omega arith)))

  -- The command, and the sector and the buffer, as step 3 of cycle c finds them.
  abbrev command : ℕ
  command = command_at_fetch image (at_fetch (hit 0) (m 0))

  abbrev sector : ℕ
  sector = io_at disksector (at_fetch (hit 0) (m 0))

  abbrev buffer : ℕ
  buffer = io_at diskbuffer (at_fetch (hit 0) (m 0))

  begins : Busy 1024 command sector buffer (after 0)
  begins =
      subst (λ (x : Machine). Busy 1024 command sector buffer (bus_of x)) (sym (next 0 (omega arith))) (busy-accepted (2 ^ 40) image (hit 0) (m 0) sound accepts)

  goes_on : (j : ℕ) → j < made → Cycled (after j) (four (suc j)) (after (suc j))
  goes_on j h =
      subst (λ (x : Machine). Cycled (bus_of (m (suc j))) (bus_of (fetched_and_executed image (at_fetch (hit (suc j)) (m (suc j))))) (bus_of x)) (sym (next (suc j) (omega arith)))
      (cycled (2 ^ 40) image (hit (suc j)) (m (suc j)) (sound-at (suc j) (omega arith)))

  -- In cycle c itself no word moves.
  pub none_in_c : NoWord (four 0) (after 0)
  none_in_c =
      subst (λ (x : Machine). NoWord (four 0) (bus_of x)) (sym (next 0 (omega arith)))
      (none_any (command) (at_fetch (hit 0) (m 0)).io (bus_of (m 0)) (four 0) _ (cycled (2 ^ 40) image (hit 0) (m 0) sound) (was_free (2 ^ 40) image (hit 0) (m 0) sound accepts))

  -- "a disk command accepted in cycle c frees the disk at the end of cycle c+1024 and not before"
  pub busy-at : (j : ℕ) → j < 1024 → j ≤ made → Busy (1024 - j) command sector buffer (after j)
  busy-at = busy-at-any four after made command sector buffer begins goes_on

  pub free-at : 1024 ≤ made → GotFree (after 1024)
  free-at = free-at-any four after made command sector buffer begins goes_on

  -- "moves word k of the sector, k from 0 to 127, in the disk's step of cycle c+8(k+1)", and nothing in another cycle of these.
  pub word_moves : (k : ℕ) → k < 128 → 8 * (k + 1) ≤ made → WordMoved k command sector buffer (four (8 * (k + 1))) (after (8 * (k + 1)))
  word_moves = word-moves-any four after made command sector buffer begins goes_on

  pub no_other : (j : ℕ) → j < 1024 → j < made → (suc j % 8 ≡ 0 → ⊥) → NoWord (four (suc j)) (after (suc j))
  no_other = no-other-any four after made command sector buffer begins goes_on
