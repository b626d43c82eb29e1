-- Intel HEX read: the lines of a text, the questions asked of its records, and the words that a good text gives.
use Rattle.std.specs.Prelude.{ℕ, ◌+◌, ◌-◌, ◌*◌, Bool, false, cond, not, ◌&&◌, ◌||◌, List, [], ◌∷◌, map, eqb, leb, length, get_or, take, replicate}
use Prim.Native.Char.{code}
use Rattle.text.specs.declared.Outcome.{Outcome}
use Rattle.text.specs.Questions.{Question, accepted, first_no, first_bad}
use Rattle.text.specs.Lines.{lines}
use Rattle.text.specs.Place.{put}
use Rattle.intel_hex.specs.Words.{words_of}
use Rattle.intel_hex.specs.Record.{line_bytes, data_count, address, kind, data_bytes, is_record}

-- ---- the lines

abbrev pub CR : ℕ
CR = code "\r"

-- A line without the one CR that may stand at its end.
unfoldable pub without_cr : List ℕ → List ℕ
without_cr l = cond (eqb (get_or l (length l - 1) 0) CR) (take (length l - 1) l) l

-- "Lines end in LF, with a CR before it allowed on reading. .. The last LF may be missing, with that CR or without."
abbrev pub record_lines : List ℕ → List (List ℕ)
record_lines text = map without_cr (lines text)

-- ---- the questions

abbrev pub is_end : (kind : ℕ) → Bool
is_end t = eqb t 1

-- Not "an end record with data or text after it": it is no end record, or one without data whose line is the last.
abbrev pub is_right_end : (is_last : Bool) (kind count : ℕ) → Bool
is_right_end is_last t count = not (is_end t) || (eqb count 0 && is_last)

-- "Read types 00 and 01", not "another type".
abbrev pub is_read_type : (kind : ℕ) → Bool
is_read_type t = leb t 1

-- Not "a byte past the memory or a first address not above the last byte named before it (.. never for a record without bytes)": the memory has
-- `room` bytes, and `free` is the address after the last byte named before, 0 where none is.
abbrev pub is_placed : (room free address count : ℕ) → Bool
is_placed room free a count = eqb count 0 || (leb free a && leb (a + count) room)

-- "in this order, a wrong form, digit or checksum, an end record with data or text after it (17), another type .. (18 ..), a byte past the memory or
-- a first address not above the last byte named before it (19 ..)"
abbrev pub record_questions : (room free : ℕ) (is_last : Bool) → List ℕ → List Question
record_questions room free is_last l =
    let b = line_bytes l in
    (17, is_record l && is_right_end is_last (kind b) (data_count b)) ∷ (18, is_read_type (kind b)) ∷ (19, is_placed room free (address b) (data_count b)) ∷ []

-- The address after the last byte named, once a record with the bytes b has been read: one "without bytes" names none.
abbrev pub free_after : (free : ℕ) → List ℕ → ℕ
free_after free b = cond (eqb (data_count b) 0) free (address b + data_count b)

-- The same once all these lines have been read.
unfoldable pub free_after_all : (free : ℕ) → List (List ℕ) → ℕ
free_after_all free [] = free
free_after_all free (l ∷ ls) = free_after_all (free_after free (line_bytes l)) ls

-- The questions asked of the line l that i of all the lines stand before.
abbrev pub line_questions : (room : ℕ) → List (List ℕ) → ℕ → List ℕ → List Question
line_questions room all i l = record_questions room (free_after_all 0 (take i all)) (eqb (i + 1) (length all)) l

-- One of the records is an end.
unfoldable pub has_end : List (List ℕ) → Bool
has_end [] = false
has_end (l ∷ ls) = is_end (kind (line_bytes l)) || has_end ls

-- "It refuses, at the first bad record and in this order, .. a missing end (18, at the line after the last)": what the records of these lines tell,
-- where the memory has `room` bytes.
unfoldable pub records_outcome : (room : ℕ) → List (List ℕ) → Outcome
records_outcome room ls = first_bad (line_questions room ls) 0 ls (first_no ((18, has_end ls) ∷ []) (length ls + 1) (accepted 0))

-- What the reader tells: question 1 of the memory, which has n words and is to have `size`; then those of the records.
unfoldable pub hex_outcome : (size n : ℕ) → List ℕ → Outcome
hex_outcome size n text = first_no ((1, eqb n size) ∷ []) 0 (records_outcome (4 * n) (record_lines text))

-- ---- the words

-- The bytes of a memory into which each record puts its data, at its address.
unfoldable pub put_records : List ℕ → List (List ℕ) → List ℕ
put_records bytes [] = bytes
put_records bytes (l ∷ ls) = put_records (put bytes (address (line_bytes l)) (data_bytes (line_bytes l))) ls

-- The n words that a good text gives: "bytes not named are zero".
unfoldable pub hex_words : ℕ → List ℕ → List ℕ
hex_words n text = words_of n (put_records (replicate (4 * n) 0) (record_lines text))
