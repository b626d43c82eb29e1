-- "Memory files: one word a line, 12, 8 or 2 hex digits (instructions, words, frame), either case; missing lines are zero. Written: every
-- word of the slice, capitals." The number of digits is k.
use Rattle.std.specs.Prelude.{ℕ, ◌-◌, ◌*◌, ◌%◌, ◌^◌, ◌≡◌, Bool, ◌&&◌, List, [], ◌∷◌, ◌++◌, map, eqb, ltb, leb, length, replicate, take, drop}
use Rattle.text.specs.declared.Outcome.{Outcome}
use Rattle.text.specs.Questions.{Question, accepted, first_no, first_bad}
use Rattle.text.specs.Numerals.{digits, all_digits, value}
use Rattle.text.specs.Lines.{lines, unlines}
use Rattle.files.specs.Sizes.{sector_words}

-- ---- reading

-- "one word a line, 12, 8 or 2 hex digits .., either case": the line is k digits and nothing else.
abbrev pub is_word : ℕ → List ℕ → Bool
is_word k l = eqb (length l) k && all_digits 16 l

-- "Files, first bad line: a word left for this line? 10. Right digits? 9": the questions asked of the line l that i lines stand before,
-- where the memory has `room` words.
abbrev pub word_questions : ℕ → ℕ → ℕ → List ℕ → List Question
word_questions k room i l = (10, ltb i room) ∷ (9, is_word k l) ∷ []

-- What a reader tells of the lines of a text.
unfoldable pub lines_outcome : ℕ → ℕ → List ℕ → Outcome
lines_outcome k room text = first_bad (word_questions k room) 0 (lines text) (accepted 0)

-- What a reader tells: question 1 of the memory's length, then those of the lines.
unfoldable pub read_outcome : ℕ → (ℕ → Bool) → ℕ → List ℕ → Outcome
read_outcome k is_right length text = first_no ((1, is_right length) ∷ []) 0 (lines_outcome k length text)

-- The n words that a good file gives: one for each line, and "missing lines are zero".
unfoldable pub file_words : ℕ → List (List ℕ) → List ℕ
file_words n ls = map (value 16) ls ++ replicate (n - length ls) 0

-- ---- images

-- "bits above 47 are not read, and two images are the same .. when their low 48 bits are"
abbrev pub low48 : List ℕ → List ℕ
low48 image = map (λ word. word % 2 ^ 48) image

abbrev pub SameImage : List ℕ → List ℕ → Type 0
SameImage a b = low48 a ≡ low48 b

-- ---- writing

-- "Written: every word of the slice, capitals": for each word its k low digits and an LF.
unfoldable pub file_text : ℕ → List ℕ → List ℕ
file_text k words = unlines (map (digits 16 k) words)

-- What a writer tells: question 1, which `is_right` answers, then "does the whole text fit? 15". Where it does, the count of its bytes.
unfoldable pub write_outcome : Bool → List ℕ → ℕ → Outcome
write_outcome is_right file room = first_no ((1, is_right) ∷ (15, leb (length file) room) ∷ []) 0 (accepted (length file))

-- The words of so many sectors of the disk, from sector `first` on.
abbrev pub sectors_of : List ℕ → ℕ → ℕ → List ℕ
sectors_of disk first sectors = take (sector_words * sectors) (drop (sector_words * first) disk)
