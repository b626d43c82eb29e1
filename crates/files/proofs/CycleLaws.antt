-- The cycles of an irq2 file that is accepted stand at the front of the list that they are read into. Assumes nothing.
use Rattle.std.specs.Prelude.{Result}
use Prim.Native.Nat.{ℕ, ◌+◌, ◌≤◌}
use mathlib.Core.Path.{◌≡◌, refl, sym, ◌∙◌, ap}
use mathlib.Core.List.{List, [], ◌∷◌, ◌++◌}
use native.Mathlib.Omega.{arith}
use lib.Dec.{ltb}
use lib.ListN.{length, drop, length-append, length-map}
use lib.Seq.{take-append_seam}
use borrow.Author.Tests.{ltb-true}
use Rattle.text.specs.declared.Outcome.{Outcome}
use Rattle.text.specs.Questions.{accepted, first_bad}
use Rattle.text.specs.Lines.{lines}
use Rattle.text.specs.Numerals.{value}
use Rattle.std.specs.List.{AllPass}
use Rattle.text.proofs.QuestionLaws.{first_yes}
use Rattle.text.proofs.PutLaws.{put_front}
use Rattle.files.specs.declared.CycleError.{CycleError}
use Rattle.files.specs.Irq2File.{is_cycle, is_above, cycle_questions, irq2_outcome, file_cycles}
use Rattle.files.specs.Answers.{cycles_read_outcome}
use Rattle.files.specs.Promises.{Irq2Read}
use Rattle.files.proofs.Irq2Laws.{irq2-cycles, irq2-rising}
use Rattle.files.specs.Loaded.{AreCycles}

module _ (room n : ℕ) (all : List (List ℕ)) where
  -- The lines of a good file, each with a place left for it, ..
  lines_fit : (i : ℕ) (ls : List (List ℕ)) → i ≤ room → (first_bad (cycle_questions room all) i ls (accepted n)).number ≡ 0 → i + length ls ≤ room
  unfolding first_bad
  lines_fit i [] h good = omega arith
  lines_fit i (l ∷ ls) h good =
      let left = first_yes 10 (i + 1) (ltb i room) _ (omega arith) good in
      let cycle = first_yes 11 (i + 1) (is_cycle l) _ (omega arith) left.1 in
      let above = first_yes 12 (i + 1) (is_above all i l) _ (omega arith) cycle.1 in
      let place = ltb-true i room left.0 in
      let rest = lines_fit (i + 1) ls (omega arith) above.1 in
      omega arith

  -- .. and their count, which is the outcome's.
  lines-counted : (i : ℕ) (ls : List (List ℕ)) → (first_bad (cycle_questions room all) i ls (accepted n)).number ≡ 0
      → first_bad (cycle_questions room all) i ls (accepted n) ≡ accepted n
  unfolding first_bad
  lines-counted i [] good = refl
  lines-counted i (l ∷ ls) good =
      let left = first_yes 10 (i + 1) (ltb i room) _ (omega arith) good in
      let cycle = first_yes 11 (i + 1) (is_cycle l) _ (omega arith) left.1 in
      let above = first_yes 12 (i + 1) (is_above all i l) _ (omega arith) cycle.1 in
      rw (left.0, cycle.0, above.0) (lines-counted (i + 1) ls above.1)

module _ (room : ℕ) (text : List ℕ) (good : (irq2_outcome room text).number ≡ 0) where
  cycles-fit : length (file_cycles text) ≤ room
  unfolding irq2_outcome
  cycles-fit = let fit = lines_fit room (length (lines text)) (lines text) 0 (lines text) (omega arith) good in rw length-map (omega arith)

  cycles-counted : (irq2_outcome room text).count ≡ length (file_cycles text)
  unfolding irq2_outcome
  cycles-counted = rw length-map (ap (λ (t : Outcome). t.count) (lines-counted room (length (lines text)) (lines text) 0 (lines text) good))

-- So many cycles were counted: the file has as many lines, each of them a cycle, and there is room for them.
pub read_count : (room count : ℕ) (text : List ℕ) → accepted count ≡ irq2_outcome room text → (count ≡ length (lines text)) × (count ≤ room) × AllPass is_cycle (lines text)
read_count room count text e =
    let good : (irq2_outcome room text).number ≡ 0 = ap (λ (t : Outcome). t.number) (sym e) in
    let all : count ≡ length (file_cycles text) = ap (λ (t : Outcome). t.count) e ∙ cycles-counted room text good in
    (all ∙ length-map (lines text) (value 10), omega (arith, cycles-fit room text good), irq2-cycles room text good)

-- The outcome of a file that was read, and the cycles then.
module _ (text cycles : List ℕ) (r : Result ℕ CycleError) (after : List ℕ) (read : Irq2Read text cycles r after) (t : Outcome) (says : t ≡ cycles_read_outcome r) where
  outcome : t ≡ irq2_outcome (length cycles) text
  outcome = says ∙ read.answer

  pub are_cycles : AreCycles t after
  are_cycles none =
      let good : (irq2_outcome (length cycles) text).number ≡ 0 = ap (λ (u : Outcome). u.number) (sym outcome) ∙ none in
      let count : t.count ≡ length (file_cycles text) = ap (λ (u : Outcome). u.count) outcome ∙ cycles-counted (length cycles) text good in
      let few = cycles-fit (length cycles) text good in
      let is : after ≡ file_cycles text ++ drop (length (file_cycles text)) cycles = read.places ∙ rw good (put_front cycles (file_cycles text) few) in
      (rw (is, count, length-append) (omega arith), rw (is, count, take-append_seam) (irq2-rising (length cycles) text good))
