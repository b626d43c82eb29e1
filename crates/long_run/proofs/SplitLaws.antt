-- A log that is split by its letters piece by piece gives the texts that the whole log gives. Assumes nothing.
use Prim.Native.Nat.{ℕ, zero, suc, ◌+◌}
use mathlib.Core.Path.{◌≡◌, refl, sym, ◌∙◌, ap, subst}
use mathlib.Core.Bool.{Bool, true, false, cond, ◌&&◌, not}
use mathlib.Core.List.{List, [], ◌∷◌, ◌++◌, append_assoc, append-nil}
use lib.Dec.{eqb}
use lib.ListN.{get_or}
use Rattle.text.specs.Bytes.{bytes}
use Rattle.text.specs.Lines.{LF, lines, unlines}
use Rattle.text.specs.Numerals.{digits, decimal}
use Rattle.isa.specs.Word.{fields_of}
use Rattle.isa.specs.Operations.{Operation, operation_of, calculate, branch, jal, lw, sw, reti, input, output, halt, unknown}
use Rattle.isa.specs.Registers.{io_name, is_listed, leds, display7seg}
use Rattle.trace.specs.LogLines.{field, register_fields, line_t, line_h, line_ld}
use Rattle.machine.specs.declared.Operands.{Operands}
use Rattle.machine.specs.State.{Machine}
use Rattle.machine.specs.Execution.{fetched, registers_of, operands_of, address}
use Rattle.machine.specs.Log.{change_lines, io_lines, lines_at_fetch}
use Rattle.claim.specs.Plain.{is_over, said, log_after}
use Rattle.claim.proofs.Runs.{log-add}
use Rattle.runner.specs.Lab.{simp, code_of}
use Rattle.outputs.specs.LogFiles.{lines_with}
use Rattle.outputs.proofs.LogLaws.{with_joined}
use Rattle.long_run.specs.Pieces.{machine_after, lines_of}

-- ---- lines that are whole

-- No bytes, or bytes whose last is an LF.
data Whole : List ℕ → Type 0 where
  none : Whole []
  ended : (l : List ℕ) → Whole (l ++ (LF ∷ []))

joined : (a : List ℕ) {b : List ℕ} → Whole a → Whole b → Whole (a ++ b)
joined a w none = subst Whole (sym (append-nil a)) w
joined a w (ended l) = subst Whole (append_assoc a l (LF ∷ [])) (ended (a ++ l))

chosen : (t : Bool) {a b : List ℕ} → Whole a → Whole b → Whole (cond t a b)
chosen true p q = p
chosen false p q = q

whole_t : (pc word : ℕ) (rs : List ℕ) → Whole (line_t pc word rs)
unfolding line_t
whole_t pc word rs = ended (bytes "T" ++ field (digits 16 3 pc) ++ field (digits 16 12 word) ++ register_fields rs)

whole_h : (c : ℕ) (way : List ℕ) (n x : ℕ) → Whole (line_h c way n x)
unfolding line_h
whole_h c way n x = ended (bytes "H" ++ field (decimal c) ++ field way ++ field (io_name n) ++ field (digits 16 8 x))

whole_ld : (letter : List ℕ) (c x : ℕ) → Whole (line_ld letter c x)
unfolding line_ld
whole_ld letter c x = ended (letter ++ field (decimal c) ++ field (digits 16 8 x))

whole_change : (c n x : ℕ) (io : List ℕ) → Whole (change_lines c n x io)
unfolding change_lines
whole_change c n x io =
    chosen (eqb n leds && not (eqb x (get_or io leds 0))) (whole_ld (bytes "L") c x)
    (chosen (eqb n display7seg && not (eqb x (get_or io display7seg 0))) (whole_ld (bytes "D") c x) none)

whole-io : (c : ℕ) (op : Operation) (o : Operands) (io : List ℕ) → Whole (io_lines c op o io)
unfolding io_lines
whole-io c (calculate k) o io = none
whole-io c (branch k) o io = none
whole-io c jal o io = none
whole-io c lw o io = none
whole-io c sw o io = none
whole-io c reti o io = none
whole-io c input o io = chosen (is_listed (address o)) (whole_h c (bytes "READ") (address o) (get_or io (address o) 0)) none
whole-io c output o io =
    chosen (is_listed (address o)) (joined _ (whole_h c (bytes "WRITE") (address o) o.rm) (whole_change c (address o) o.rm io)) none
whole-io c halt o io = none
whole-io c unknown o io = none

whole-cycle : (image : List ℕ) (m : Machine) → Whole (lines_at_fetch image m)
unfolding lines_at_fetch
whole-cycle image m =
    let word = fetched image m in
    let f = fields_of word in
    joined _ (whole_t m.core.pc word (registers_of f m)) (whole-io m.core.age (operation_of f.op) (operands_of f m) m.io)

-- ---- a log in pieces

module _ (image irq2 : List ℕ) where
  -- The lines of any number of cycles are whole.
  whole-log : (n : ℕ) (m : Machine) → Whole (lines_of image irq2 n m)
  unfolding log_after said
  whole-log zero m = none
  whole-log (suc n) m = joined _ (whole-log n m) (chosen (is_over simp (machine_after image irq2 n m)) none (whole-cycle _ _))

  with_whole : (letter : ℕ) {a : List ℕ} (b : List ℕ) → Whole a → lines_with letter (a ++ b) ≡ lines_with letter a ++ lines_with letter b
  unfolding lines_with lines unlines
  with_whole letter b none = refl
  with_whole letter b (ended l) = ap (lines_with letter) (append_assoc l (LF ∷ []) b) ∙ with_joined letter l b

  -- A run of n + k cycles, cut after n: the texts of trace.txt, hwregtrace.txt, leds.txt and display7seg.txt are those of the first piece and then those of
  -- the second.
  pub split_in_pieces : (letter n k : ℕ) (m : Machine)
      → lines_with letter (lines_of image irq2 n m) ++ lines_with letter (lines_of image irq2 k (machine_after image irq2 n m)) ≡ lines_with letter (lines_of image irq2 (n + k) m)
  split_in_pieces letter n k m =
      sym (with_whole letter (lines_of image irq2 k (machine_after image irq2 n m)) (whole-log n m))
      ∙ ap (lines_with letter) (sym (log-add simp (code_of image irq2) n k m))
