-- Laws of filling a memory from a good file, over the digit count. Assumes nothing.
use Prim.Native.Nat.{ℕ, suc, ◌+◌, ◌-◌, ◌^◌, ◌≤◌, ◌<◌}
use mathlib.Core.Path.{◌≡◌, ◌∙◌}
use mathlib.Core.Bool.{true}
use mathlib.Core.List.{List, ◌∷◌, ◌++◌, append_assoc}
use native.Mathlib.Nat.{sub-zero, le_trans, pow-le-pow_right}
use native.Mathlib.Omega.{arith}
use native.Mathlib.Numerals.{add-one}
use lib.ListN.{length, take, drop, set, replicate, length-set, drop_of_length-le}
use lib.Seq.{take-suc-set}
use lib.Dec.{eqb}
use borrow.Author.Tests.{eqb-true}
use Rattle.text.specs.Questions.{accepted, first_bad}
use Rattle.text.specs.Numerals.{all_digits, value}
use Rattle.text.specs.Lines.{lines, first_line}
use Rattle.text.proofs.Truth.{and_left, and_right}
use Rattle.text.proofs.DigitLaws.{value_lt}
use Rattle.files.specs.MemoryFile.{is_word, word_questions, lines_outcome, file_words}
use Rattle.files.proofs.CheckLaws.{next-line, good-room, good-word, good-fits, good-next}

-- A word of k digits is below 16 ^ k.
pub word_lt : (k : ℕ) (l : List ℕ) → is_word k l ≡ true → value 16 l < 16 ^ k
word_lt k l e =
    rw (← eqb-true (length l) k (and_left (eqb (length l) k) (all_digits 16 l) e)) (value_lt 16 l (and_right (eqb (length l) k) (all_digits 16 l) e))

-- ---- a word for each line

-- A memory of n words is filled from a good text of k digits a line; m is the memory when i words are set and the next line begins at `at`.
pub record Filling (k n : ℕ) (text m : List ℕ) (at i : ℕ) : Type 0 where
  pub rest : take i m ++ file_words (n - i) (lines (drop at text)) ≡ file_words n (lines text)
  pub good : (first_bad (word_questions k n) i (lines (drop at text)) (accepted 0)).number ≡ 0
  pub size : length m ≡ n
  pub inside : at ≤ length text + 1
  pub done : i ≤ n

pub fill_start : {k n : ℕ} {text m : List ℕ} → (lines_outcome k n text).number ≡ 0 → length m ≡ n → Filling k n text m 0 0
unfolding lines_outcome
fill_start good size = record { rest = rw sub-zero; good = good; size = size; inside = omega arith; done = omega arith }

words_cons : (n i : ℕ) (l : List ℕ) (ls : List (List ℕ)) → file_words (n - i) (l ∷ ls) ≡ value 16 l ∷ file_words (n - (i + 1)) ls
unfolding file_words
words_cons n i l ls =
    let left : n - i - suc (length ls) ≡ n - (i + 1) - length ls = omega arith in
    rw left

no_words : (text : List ℕ) (at n : ℕ) → length text ≤ at → file_words n (lines (drop at text)) ≡ replicate n 0
unfolding file_words lines
no_words text at n h = rw (drop_of_length-le text h, sub-zero)

module _ {k n : ℕ} {text m : List ℕ} {at i : ℕ} (l : Filling k n text m at i) where
  -- A line is left: ..
  module _ (h : at < length text) where
    -- .. a word is left for it, ..
    pub fill_room : i < length m
    fill_room = rw l.size (good-room k n text at i h l.good)

    -- .. it is a word, ..
    pub fill_word : is_word k (first_line (drop at text)) ≡ true
    fill_word = good-word k n text at i h l.good

    -- .. its digits lie within the text, ..
    pub fill_fits : at + k ≤ length text
    fill_fits = good-fits k n text at i h l.good

    -- .. and its number, v, is small, ..
    pub fill_small : (most : ℕ) {v : ℕ} → k ≤ most → v ≡ value 16 (first_line (drop at text)) → v < 16 ^ most
    fill_small most few e =
        rw e (le_trans (word_lt k (first_line (drop at text)) fill_word) (pow-le-pow_right {n = 16} (omega arith) few))

    -- .. and is set.
    pub fill_turn : {v : ℕ} → v ≡ value 16 (first_line (drop at text)) → Filling k n text (set m i v) (at + (k + 1)) (i + 1)
    fill_turn {v} e =
        let turn : take (i + 1) (set m i v) ++ file_words (n - (i + 1)) (lines (drop (at + (k + 1)) text)) ≡ take i m ++ file_words (n - i) (lines (drop at text))
        = rw (next-line k n text at i h fill_word, words_cons, e, add-one i, take-suc-set m i _ fill_room, append_assoc) in
        let room = fill_room in
        let fits = fill_fits in
        record {
          rest = turn ∙ l.rest;
          good = good-next k n text at i h l.good;
          size = simp length-set l.size;
          inside = omega arith;
          done = omega (arith, l.size);
        }

  -- No line is left, and the missing ones are set to zero.
  pub fill_end : {e : List ℕ} → length text ≤ at → e ≡ take i m ++ replicate (length m - i) 0 → e ≡ file_words n (lines text)
  fill_end h q = rw (q, l.size, ← no_words text at (n - i) h) l.rest
