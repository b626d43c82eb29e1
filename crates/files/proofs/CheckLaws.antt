-- Laws of the questions asked of a memory file's lines, over the digit count. Assumes nothing.
use Prim.Native.Nat.{ℕ, suc, ◌+◌, ◌-◌, ◌^◌, ◌≤◌, ◌<◌}
use mathlib.Core.Path.{◌≡◌, refl, sym, ◌∙◌}
use mathlib.Core.Bool.{Bool, true, false, true≢false}
use mathlib.Core.List.{List, ◌∷◌}
use native.Mathlib.Nat.{pow-le-pow_right}
use native.Mathlib.Omega.{arith}
use native.Mathlib.Numerals.{add-one}
use lib.ListN.{length, take, drop, length-drop, drop_of_length-le}
use lib.Seq.{drop-drop, length-take-le}
use lib.Dec.{eqb, ltb}
use borrow.Author.Tests.{lt-ltb, le-ltb, ltb-true, eq-eqb, eqb-true}
use Rattle.text.specs.Questions.{accepted, refused, first_bad}
use Rattle.text.specs.Numerals.{all_digits}
use Rattle.text.specs.Lines.{lines, first_line, ends_line}
use Rattle.text.proofs.Truth.{and_left, and_right}
use Rattle.text.proofs.QuestionLaws.{first_yes}
use Rattle.text.proofs.LineLaws.{first_le, first-front, first_ends, first-is, lines-first, digits_no_lf}
use Rattle.files.specs.MemoryFile.{is_word, word_questions}

-- ---- one line

module _ (k : ℕ) (s : List ℕ) where
  -- A first line that is a word: k digits stand at the front, and a line can end after them.
  pub word-form : is_word k (first_line s) ≡ true → (length (first_line s) ≡ k) × (k ≤ length s) × (ends_line s k ≡ true) × (all_digits 16 (take k s) ≡ true)
  word-form e =
      let size = eqb-true (length (first_line s)) k (and_left (eqb (length (first_line s)) k) (all_digits 16 (first_line s)) e) in (
        size,
        rw (← size) (first_le s),
        rw (← size) (first_ends s),
        rw (← size, first-front s) (and_right (eqb (length (first_line s)) k) (all_digits 16 (first_line s)) e),
      )

  no_word : (is_word k (first_line s) ≡ true → ⊥) → false ≡ is_word k (first_line s)
  no_word never = go (is_word k (first_line s)) refl
    where
      go : (t : Bool) → is_word k (first_line s) ≡ t → false ≡ t
      go true e = absurd (never e)
      go false e = refl

  -- What `is_word` finds: too few bytes, no end after k of them, or k bytes to look at.
  pub word_short : length s < k → false ≡ is_word k (first_line s)
  word_short h = no_word (λ e. let long = (word-form e).1 in omega arith)

  pub word_long : ends_line s k ≡ false → false ≡ is_word k (first_line s)
  word_long h = no_word (λ e. true≢false (sym (word-form e).2 ∙ h))

  pub word-front : k ≤ length s → ends_line s k ≡ true → all_digits 16 (take k s) ≡ is_word k (first_line s)
  word-front h ends = go (all_digits 16 (take k s)) refl
    where
      go : (t : Bool) → all_digits 16 (take k s) ≡ t → t ≡ is_word k (first_line s)
      go true e = rw (first-is k s h (digits_no_lf 16 (take k s) (omega arith) e) ends, length-take-le k s h, eq-eqb k k refl, e)
      go false e = no_word (λ w. true≢false (sym (word-form w).3 ∙ e))

  -- The digits of a word.
  pub word-digits : is_word k (first_line s) ≡ true → take k s ≡ first_line s
  word-digits e = rw (← (word-form e).0) (first-front s)

-- The part of the text that is lent for a word.
module _ (k : ℕ) (text : List ℕ) (at : ℕ) (good : is_word k (first_line (drop at text)) ≡ true) where
  pub word-part : take (at + k - at) (drop at text) ≡ first_line (drop at text)
  word-part = let size : at + k - at ≡ k = omega arith in rw size (word-digits k (drop at text) good)

  pub word-all : all_digits 16 (first_line (drop at text)) ≡ true
  word-all = and_right (eqb (length (first_line (drop at text))) k) (all_digits 16 (first_line (drop at text))) good

  pub word_fits : k ≤ 12 → 16 ^ length (first_line (drop at text)) ≤ 2 ^ 64
  word_fits few = rw (word-form k (drop at text) good).0 (pow-le-pow_right {n = 16} (omega arith) {j = 16} (omega arith))

  pub word-inside : at < length text → at + k ≤ length text
  word-inside h = let long = rw length-drop at (word-form k (drop at text) good).1 in omega arith

-- ---- one line after the other

-- The lines of `text` from `at` on, i lines before them.
module _ (k room : ℕ) (text : List ℕ) (at i : ℕ) where
  module _ (h : at < length text) where
    here : lines (drop at text) ≡ first_line (drop at text) ∷ lines (drop (at + suc (length (first_line (drop at text)))) text)
    here = lines-first (drop at text) (rw length-drop (omega arith)) ∙ rw drop-drop

    pub check_full : room ≤ i → refused 10 (i + 1) ≡ first_bad (word_questions k room) i (lines (drop at text)) (accepted 0)
    unfolding first_bad
    check_full full = rw (here, le-ltb i room full)

    pub check_bad : i < room → is_word k (first_line (drop at text)) ≡ false
        → refused 9 (i + 1) ≡ first_bad (word_questions k room) i (lines (drop at text)) (accepted 0)
    unfolding first_bad
    check_bad left bad = rw (here, lt-ltb i room left, bad)

    -- The next line begins after k digits and an LF.
    pub next-line : is_word k (first_line (drop at text)) ≡ true → lines (drop at text) ≡ first_line (drop at text) ∷ lines (drop (at + (k + 1)) text)
    next-line good = here ∙ rw ((word-form k (drop at text) good).0, add-one k)

    pub check_good : i < room → is_word k (first_line (drop at text)) ≡ true
        → first_bad (word_questions k room) (i + 1) (lines (drop (at + (k + 1)) text)) (accepted 0)
        ≡ first_bad (word_questions k room) i (lines (drop at text)) (accepted 0)
    unfolding first_bad
    check_good left good = rw (next-line good, lt-ltb i room left, good)

  pub check_end : length text ≤ at → accepted 0 ≡ first_bad (word_questions k room) i (lines (drop at text)) (accepted 0)
  unfolding first_bad lines
  check_end h = rw (drop_of_length-le text h)

-- ---- a good file

-- In a good file each line has a word of the memory and is a word, and the lines after it are good.
module _ (k room : ℕ) (text : List ℕ) (at i : ℕ) (h : at < length text) (good : (first_bad (word_questions k room) i (lines (drop at text)) (accepted 0)).number ≡ 0) where
  answers : (ltb i room ≡ true) × (is_word k (first_line (drop at text)) ≡ true)
  unfolding first_bad
  answers =
      let asked = rw (here k room text at i h) at good in
      let left = first_yes 10 (i + 1) (ltb i room) _ (omega arith) asked in
      (left.0, (first_yes 9 (i + 1) (is_word k (first_line (drop at text))) _ (omega arith) left.1).0)

  pub good-room : i < room
  good-room = ltb-true i room answers.0

  pub good-word : is_word k (first_line (drop at text)) ≡ true
  good-word = answers.1

  pub good-fits : at + k ≤ length text
  good-fits = word-inside k text at good-word h

  pub good-next : (first_bad (word_questions k room) (i + 1) (lines (drop (at + (k + 1)) text)) (accepted 0)).number ≡ 0
  good-next = rw (check_good k room text at i h good-room good-word) good
