-- "At most 231 bytes are logged per cycle." Assumes nothing.
use Prim.Native.Nat.{ℕ, ◌+◌, ◌^◌, ◌≤◌, ◌<◌}
use mathlib.Core.Path.{◌≡◌, refl, ap}
use mathlib.Core.Bool.{Bool, true, false, cond, ◌&&◌, not}
use mathlib.Core.List.{List, [], ◌++◌}
use native.Mathlib.Omega.{arith}
use lib.ListN.{length, get_or, length-append}
use lib.Dec.{eqb}
use borrow.Author.Tests.{eqb-true}
use Rattle.text.specs.Bytes.{bytes}
use Rattle.text.specs.Numerals.{digit_count}
use Rattle.text.proofs.Truth.{and_left}
use Rattle.text.proofs.DecimalLaws.{count_le}
use Rattle.isa.specs.Operations.{Operation, operation_of, calculate, branch, jal, lw, sw, reti, input, output, halt, unknown}
use Rattle.isa.specs.Registers.{io_name, is_listed, leds, display7seg}
use Rattle.isa.specs.Word.{fields_of}
use Rattle.isa.proofs.IoLaws.{name-length}
use Rattle.trace.specs.LogLines.{line_h, line_ld}
use Rattle.trace.proofs.LengthLaws.{length-T, length-H, length-LD}
use Rattle.machine.specs.declared.Operands.{Operands}
use Rattle.machine.specs.State.{Machine}
use Rattle.machine.specs.Interrupts.{is_requested, irq2_raised, interrupted}
use Rattle.machine.specs.Execution.{fetched, registers_of, operands_of, address}
use Rattle.machine.specs.Cycle.{at_fetch}
use Rattle.machine.specs.Log.{change_lines, io_lines, lines_at_fetch}
use Rattle.machine.proofs.Choice.{either}
use Rattle.machine.proofs.AgeLaws.{age-at_fetch}

-- ---- H, L and D

module _ (c : ℕ) (young : c < 2 ^ 40) where
  cycle-digits : digit_count 10 c ≤ 13
  cycle-digits = count_le 10 (omega arith) 12 c (omega arith)

  length_in : (n x : ℕ) → length (line_h c (bytes "READ") n x) ≤ 68
  length_in n x = let d = cycle-digits in let k = name-length n in rw length-H (omega arith)

  -- An out that logs L or D names leds or display7seg.
  pub length_out : (n x : ℕ) (io : List ℕ) → length (line_h c (bytes "WRITE") n x ++ change_lines c n x io) ≤ 68
  unfolding change_lines io_name
  length_out n x io =
      rw (length-append, length-H)
      (go (eqb n leds && not (eqb x (get_or io leds 0))) refl (eqb n display7seg && not (eqb x (get_or io display7seg 0))) refl cycle-digits (name-length n))
    where
      go : (a : Bool) → (eqb n leds && not (eqb x (get_or io leds 0))) ≡ a → (b : Bool) → (eqb n display7seg && not (eqb x (get_or io display7seg 0))) ≡ b
          → digit_count 10 c ≤ 13 → length (io_name n) ≤ 12
          → 14 + digit_count 10 c + 5 + length (io_name n) + length (cond a (line_ld (bytes "L") c x) (cond b (line_ld (bytes "D") c x) [])) ≤ 68
      go true e b q d k =
          let named : length (io_name n) ≡ 4 = ap (λ (i : ℕ). length (io_name i)) (eqb-true n leds (and_left (eqb n leds) (not (eqb x (get_or io leds 0))) e)) in
          rw length-LD (omega arith)
      go false e true q d k =
          let named : length (io_name n) ≡ 11 =
          ap (λ (i : ℕ). length (io_name i)) (eqb-true n display7seg (and_left (eqb n display7seg) (not (eqb x (get_or io display7seg 0))) q)) in
          rw length-LD (omega arith)
      go false e false q d k = omega arith

  none : {l : List ℕ} → l ≡ [] → length l ≤ 68
  none e = rw e (omega arith)

  -- H, L and D together.
  pub length-io : (k : Operation) (o : Operands) (io : List ℕ) → length (io_lines c k o io) ≤ 68
  unfolding io_lines
  length-io (calculate k) o io = none refl
  length-io (branch k) o io = none refl
  length-io jal o io = none refl
  length-io lw o io = none refl
  length-io sw o io = none refl
  length-io reti o io = none refl
  length-io input o io = go (is_listed (address o))
    where
      go : (t : Bool) → length (cond t (line_h c (bytes "READ") (address o) (get_or io (address o) 0)) []) ≤ 68
      go true = length_in (address o) (get_or io (address o) 0)
      go false = omega arith
  length-io output o io = go (is_listed (address o)) (length_out (address o) o.rm io)
    where
      go : (t : Bool) → length (line_h c (bytes "WRITE") (address o) o.rm ++ change_lines c (address o) o.rm io) ≤ 68
          → length (cond t (line_h c (bytes "WRITE") (address o) o.rm ++ change_lines c (address o) o.rm io) []) ≤ 68
      go true h = h
      go false h = omega arith
  length-io halt o io = none refl
  length-io unknown o io = none refl

-- ---- all lines of a cycle

-- Steps 1 and 2 keep R3 to R15.
record KeepsRegisters (m s : Machine) : Type 0 where
  same : s.regs ≡ m.regs

registers-at_fetch : (hit : Bool) (m : Machine) → KeepsRegisters m (at_fetch hit m)
unfolding at_fetch interrupted irq2_raised
registers-at_fetch hit m =
    let r = irq2_raised hit m in
    let raised = either (KeepsRegisters m) hit (record { same = refl }) (record { same = refl }) in
    either (KeepsRegisters m) (is_requested r.io && eqb r.core.handler 0) (record { same = raised.same }) raised

-- "At most 231 bytes are logged per cycle."
pub lines-at_most : (image : List ℕ) (hit : Bool) (m : Machine) → length m.regs ≡ 13 → m.core.age < 2 ^ 40 → length (lines_at_fetch image (at_fetch hit m)) ≤ 231
unfolding lines_at_fetch
lines-at_most image hit m thirteen young =
    let s = at_fetch hit m in
    let word = fetched image s in
    let f = fields_of word in
    let io = length-io s.core.age (rw (age-at_fetch hit m).same young) (operation_of f.op) (operands_of f s) s.io in
    let t = length-T s.core.pc word (registers_of f s) in
    let size = ap length (registers-at_fetch hit m).same in
    rw length-append (omega arith)
