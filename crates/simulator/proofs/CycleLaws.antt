-- Steps 3 and 4 from what the code read, and the whole cycle from its steps. Assumes nothing.
use Prim.Native.Nat.{ℕ, ◌+◌, ◌/◌, ◌%◌, ◌^◌}
use mathlib.Core.Path.{◌≡◌, refl, sym, ◌∙◌, ap}
use mathlib.Core.Bool.{Bool}
use mathlib.Core.List.{List, ◌++◌}
use native.Mathlib.Omega.{arith}
use lib.ListN.{length, get_or, length-append, length-drop}
use Rattle.text.specs.Place.{put}
use Rattle.isa.specs.declared.Fields.{Fields}
use Rattle.isa.specs.Word.{fields_of, sign_extended}
use Rattle.isa.specs.Operations.{operation_of}
use Rattle.trace.specs.LogLines.{line_t}
use Rattle.trace.proofs.LengthLaws.{length-T}
use Rattle.machine.specs.declared.Core.{Core}
use Rattle.machine.specs.declared.Operands.{Operands}
use Rattle.machine.specs.State.{Machine}
use Rattle.executor.specs.Lent.{packed, HaveText}
use Rattle.machine.specs.Execution.{fetched, registers_of, operands_of, executed, fetched_and_executed}
use Rattle.machine.specs.Cycle.{finished, at_fetch, stepped}
use Rattle.machine.specs.Log.{io_lines, lines_at_fetch, traced, traced_on}

-- ---- steps 3 and 4

-- The text stays right when R1 and R2 are set.
pub text_with_immediates : (f : Fields) (c : Core) (registers after text io memory disk frame : List ℕ) → HaveText registers text
    → after ≡ registers_of f (packed c registers io memory disk frame) → HaveText after text
text_with_immediates f c registers after text io memory disk frame k e =
    let sixteen = k.sixteen in
    let rest = length-drop 3 registers in
    rw e (record { sixteen = omega arith; zero = refl; is = k.is })

module _ (image : List ℕ) (c : Core) (registers after io memory disk frame : List ℕ) (word : ℕ) (f : Fields) (o : Operands) (w : word ≡ fetched image (packed c registers io memory disk frame)) (d : f ≡ fields_of word)
    (p : (o ≡ operands_of f (packed c registers io memory disk frame)) × (after ≡ registers_of f (packed c registers io memory disk frame))) where
  m : Machine
  m = packed c registers io memory disk frame

  -- R1 and R2 are the word's immediates.
  pub immediates_are : (get_or after 1 0 ≡ sign_extended (word / 2 ^ 12 % 2 ^ 12)) × (get_or after 2 0 ≡ sign_extended (word % 2 ^ 12))
  immediates_are =
      (ap (λ (r : List ℕ). get_or r 1 0) p.1 ∙ ap (λ (g : Fields). sign_extended g.imm1) d, ap (λ (r : List ℕ). get_or r 2 0) p.1 ∙ ap (λ (g : Fields). sign_extended g.imm2) d)

  -- The lines by the word, its fields and operands.
  pub lines_are : line_t c.pc word after ++ io_lines c.age (operation_of f.op) o io ≡ lines_at_fetch image (packed c registers io memory disk frame)
  unfolding m lines_at_fetch
  lines_are =
      ap (λ (x : Operands). line_t c.pc word after ++ io_lines c.age (operation_of f.op) x io) p.0
      ∙ ap (λ (r : List ℕ). line_t c.pc word r ++ io_lines c.age (operation_of f.op) (operands_of f m) io) p.1
      ∙ ap (λ (g : Fields). line_t c.pc word (registers_of g m) ++ io_lines c.age (operation_of g.op) (operands_of g m) io) d
      ∙ ap (λ (v : ℕ). line_t c.pc v (registers_of (fields_of v) m) ++ io_lines c.age (operation_of (fields_of v).op) (operands_of (fields_of v) m) io) w

  -- How many bytes they have.
  pub lines_size : length registers ≡ 16 → length (lines_at_fetch image (packed c registers io memory disk frame)) ≡ 163 + length (io_lines c.age (operation_of f.op) o io)
  unfolding m
  lines_size sixteen =
      let are : length after ≡ 16 = ap length p.1 ∙ rw length-drop (omega arith) in
      ap length (sym lines_are) ∙ rw (length-append, length-T) (omega arith)

  -- What they execute.
  pub executed-is : executed (operation_of f.op) o (packed c after io memory disk frame) ≡ fetched_and_executed image (packed c registers io memory disk frame)
  unfolding m fetched_and_executed
  executed-is =
      ap (λ (x : Operands). executed (operation_of f.op) x (packed c after io memory disk frame)) p.0
      ∙ ap (λ (r : List ℕ). executed (operation_of f.op) (operands_of f m) (packed c r io memory disk frame)) p.1
      ∙ ap (λ (g : Fields). executed (operation_of g.op) (operands_of g m) m) d
      ∙ ap (λ (v : ℕ). executed (operation_of (fields_of v).op) (operands_of (fields_of v) m) m) w

-- ---- the cycle

module _ (image : List ℕ) (hit : Bool) (m fetch done after : Machine) (log lines : List ℕ) (at to : ℕ) (begun : fetch ≡ at_fetch hit m) where
  -- The cycle and its lines from its steps.
  pub cycle-is : done ≡ fetched_and_executed image fetch → after ≡ finished m.core.drive.left done
      → lines ≡ put log at (lines_at_fetch image fetch) → to ≡ at + length (lines_at_fetch image fetch) → traced after lines to ≡ traced_on image hit (traced m log at)
  unfolding traced_on stepped
  cycle-is e f l n = rw (f, e, l, n, begun) refl

-- The lines don't depend on the disk.
pub lines_any : (image : List ℕ) (c : Core) (registers io memory disk other frame : List ℕ)
    → lines_at_fetch image (packed c registers io memory disk frame) ≡ lines_at_fetch image (packed c registers io memory other frame)
unfolding lines_at_fetch
lines_any image c registers io memory disk other frame = refl
