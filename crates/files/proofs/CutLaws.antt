-- A memory file is read as well from its front: for a memory of n words with k digits each, n × (k + 1) bytes, the digits and an LF for each word,
-- and one byte more decide what a reader tells and leaves. Who reads a text of any length needs to keep no more of it. Assumes nothing.
use Rattle.std.specs.Prelude.{Result}
use Prim.Native.Nat.{ℕ, zero, suc, ◌+◌, ◌-◌, ◌*◌, ◌≤◌, ◌<◌}
use mathlib.Core.Path.{◌≡◌, refl, sym, ◌∙◌, ap}
use mathlib.Core.Bool.{Bool, true, false, cond}
use mathlib.Core.List.{List, [], ◌∷◌}
use native.Mathlib.Nat.{suc-mul}
use native.Mathlib.Omega.{arith}
use lib.ListN.{length, take, drop}
use lib.Seq.{take_all, length-take-le}
use lib.Dec.{eqb, leb}
use borrow.Author.Tests.{leb-true, leb-false, ne_eqb}
use Rattle.text.specs.declared.Outcome.{Outcome}
use Rattle.text.specs.Questions.{accepted, first_bad}
use Rattle.text.specs.Lines.{LF, lines, first_line}
use Rattle.text.proofs.QuestionLaws.{first_yes}
use Rattle.files.specs.declared.FileError.{FileError}
use Rattle.files.specs.MemoryFile.{is_word, word_questions, lines_outcome, read_outcome}
use Rattle.files.specs.Promises.{MemoryRead}
use Rattle.files.proofs.CheckLaws.{check_full, check_bad, check_good, good-room, good-next}
use Rattle.files.proofs.PutLaws.{drop-take}

-- ---- one line

-- The first line of a front is a front of the first line.
first-take : (n : ℕ) (s : List ℕ) → first_line (take n s) ≡ take n (first_line s)
unfolding first_line
first-take zero s = refl
first-take (suc n) [] = refl
first-take (suc n) (c ∷ s) = go (eqb c LF) (first-take n s)
  where
    go : (t : Bool) → first_line (take n s) ≡ take n (first_line s) → cond t [] (c ∷ first_line (take n s)) ≡ take (suc n) (cond t [] (c ∷ first_line s))
    go true h = refl
    go false h = ap (λ (l : List ℕ). c ∷ l) h

-- Where a line that is good has at most k bytes, k + 1 bytes tell whether the first line is good.
pub good-cut : (is_good : List ℕ → Bool) (k m : ℕ) (s : List ℕ) → ((l : List ℕ) → k < length l → is_good l ≡ false) → k < m
    → is_good (first_line (take m s)) ≡ is_good (first_line s)
good-cut is_good k m s long h = ap is_good (first-take m s) ∙ go (leb (length (first_line s)) m) refl
  where
    go : (t : Bool) → leb (length (first_line s)) m ≡ t → is_good (take m (first_line s)) ≡ is_good (first_line s)
    go true e = ap is_good (take_all m (first_line s) (leb-true (length (first_line s)) m e))
    go false e =
        let over = leb-false (length (first_line s)) m e in
        long (take m (first_line s)) (rw (length-take-le m (first_line s) (omega arith)) h) ∙ sym (long (first_line s) (omega arith))

-- A line of at most as many bytes is the same.
pub line-cut : (m : ℕ) (s : List ℕ) → length (first_line s) ≤ m → first_line (take m s) ≡ first_line s
line-cut m s h = first-take m s ∙ take_all m (first_line s) h

-- ---- one line after the other

module _ (k room : ℕ) (text : List ℕ) where
  -- What is told of the lines of s, before which i lines stand.
  abbrev outcome_from : ℕ → List ℕ → Outcome
  outcome_from i s = first_bad (word_questions k room) i (lines s) (accepted 0)

  -- From the place `at` on, before which i lines stand, there being words for j more: a text that goes on after their lines is refused.
  never_good : (j i at : ℕ) → i + j ≡ room → at + j * (k + 1) < length text → (outcome_from i (drop at text)).number ≡ 0 → ⊥
  never_good zero i at e h good = let left = good-room k room text at i (omega arith) good in omega arith
  never_good (suc j) i at e h good =
      let one = suc-mul j (k + 1) in
      never_good j (i + 1) (at + (k + 1)) (omega arith) (omega arith) (good-next k room text at i (omega arith) good)

  -- A text that is longer than the cut.
  module _ (m : ℕ) (long : m < length text) where
    size : length (take m text) ≡ m
    size = length-take-le m text (omega arith)

    -- The line at a place is a word, or none, in both.
    same_word : (at : ℕ) → at + k < m → is_word k (first_line (drop at (take m text))) ≡ is_word k (first_line (drop at text))
    same_word at h =
        ap (λ (s : List ℕ). is_word k (first_line s)) (drop-take at m text)
        ∙ good-cut (is_word k) k (m - at) (drop at text) (λ l more. rw (ne_eqb (length l) k (omega arith))) (omega arith)

    -- One line: where it is good, what is told of the lines after it is told.
    same_line : (i at : ℕ) → i < room → at + k < m
        → outcome_from (i + 1) (drop (at + (k + 1)) (take m text)) ≡ outcome_from (i + 1) (drop (at + (k + 1)) text)
        → outcome_from i (drop at (take m text)) ≡ outcome_from i (drop at text)
    same_line i at left h rest = go (is_word k (first_line (drop at text))) refl
      where
        inside : at < length (take m text)
        inside = rw size (omega arith)

        go : (t : Bool) → is_word k (first_line (drop at text)) ≡ t → outcome_from i (drop at (take m text)) ≡ outcome_from i (drop at text)
        go true good =
            sym (check_good k room (take m text) at i inside left (same_word at h ∙ good)) ∙ rest ∙ check_good k room text at i (omega arith) left good
        go false bad =
            sym (check_bad k room (take m text) at i inside left (same_word at h ∙ bad)) ∙ check_bad k room text at i (omega arith) left bad

    -- All of them: past the last word any byte is refused.
    same_outcome : (j i at : ℕ) → i + j ≡ room → at + j * (k + 1) < m → outcome_from i (drop at (take m text)) ≡ outcome_from i (drop at text)
    same_outcome zero i at e h =
        sym (check_full k room (take m text) at i (rw size (omega arith)) (omega arith)) ∙ check_full k room text at i (omega arith) (omega arith)
    same_outcome (suc j) i at e h =
        let one = suc-mul j (k + 1) in
        same_line i at (omega arith) (omega arith) (same_outcome j (i + 1) (at + (k + 1)) (omega arith) (omega arith))

-- ---- any text

-- A text that is longer than the file of the memory is refused.
pub long_refused : (k room : ℕ) (text : List ℕ) → room * (k + 1) < length text → (lines_outcome k room text).number ≡ 0 → ⊥
unfolding lines_outcome
long_refused k room text h good = never_good k room text room 0 0 (omega arith) (omega arith) good

-- Of the lines of the cut the same is told; ..
pub cut-outcome : (k room m : ℕ) (text : List ℕ) → room * (k + 1) < m → lines_outcome k room (take m text) ≡ lines_outcome k room text
unfolding lines_outcome
cut-outcome k room m text h = go (leb (length text) m) refl
  where
    go : (t : Bool) → leb (length text) m ≡ t → lines_outcome k room (take m text) ≡ lines_outcome k room text
    go true e = ap (lines_outcome k room) (take_all m text (leb-true (length text) m e))
    go false e = same_outcome k room text m (leb-false (length text) m e) room 0 0 (omega arith) (omega arith)

module _ (k : ℕ) (is_right : ℕ → Bool) (m : ℕ) (text : List ℕ) where
  -- .. by a reader too, whose question 1 is of the memory alone.
  pub cut-read-outcome : (room : ℕ) → room * (k + 1) < m → read_outcome k is_right room (take m text) ≡ read_outcome k is_right room text
  unfolding read_outcome
  cut-read-outcome room h = rw (cut-outcome k room m text h)

  -- A text that is longer than the cut is refused, ..
  cut-refused : (room : ℕ) → room * (k + 1) < m → m < length text → (read_outcome k is_right room text).number ≡ 0 → ⊥
  unfolding read_outcome
  cut-refused room h long good = long_refused k room text (omega arith) (first_yes 1 0 (is_right room) _ (omega arith) good).1

  -- .. so who reads the cut has read the text.
  pub cut-read : (memory : List ℕ) (r : Result (Unit {0}) FileError) (after : List ℕ) → length memory * (k + 1) < m
      → MemoryRead k is_right (take m text) memory r after → MemoryRead k is_right text memory r after
  cut-read memory r after h p = go (leb (length text) m) refl
    where
      go : (t : Bool) → leb (length text) m ≡ t → MemoryRead k is_right text memory r after
      go true e = rw (take_all m text (leb-true (length text) m e)) at p
      go false e =
          let same = cut-read-outcome (length memory) h in
          let refusal = ne_eqb (read_outcome k is_right (length memory) text).number 0 (cut-refused (length memory) h (leb-false (length text) m e)) in
          record { answer = p.answer ∙ same; words = rw (same, refusal) at p.words ∙ rw refusal }
