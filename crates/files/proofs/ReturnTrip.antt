-- The return trip (demand 2): "a saved record or written memory reads back the same". For every memory of the right length writing succeeds where
-- there is room, and reading the text into any slice of that length, whatever it held, succeeds and gives the memory back; of an image, the same
-- image, with zeros above bit 47. In the statements w is what the writer answered and `sent` the slice that it was lent, after the call; r is what
-- the reader answered and `after` the memory that it was lent, after the call. Assumes nothing.
use Rattle.std.specs.Prelude.{Result, Ok}
use Prim.Native.Nat.{ℕ, zero, suc, ◌+◌, ◌-◌, ◌*◌, ◌%◌, ◌^◌, ◌≤◌}
use mathlib.Core.Path.{◌≡◌, refl, sym, ◌∙◌, ap}
use mathlib.Core.Bool.{Bool, true}
use mathlib.Core.List.{List, [], ◌∷◌, map, append-nil}
use native.Mathlib.Nat.{one-le-pow, mod-mod, le_refl, zero-add}
use native.Mathlib.Omega.{arith}
use lib.ListN.{length, take, drop, replicate, length-map, take-append-drop}
use lib.Seq.{take-append_seam, drop-append_seam, sets-eq, take-add}
use lib.Dec.{eqb, ltb}
use borrow.Author.Tests.{lt-ltb, le-leb, eq-eqb}
use Rattle.text.specs.declared.Outcome.{Outcome}
use Rattle.text.specs.Questions.{accepted, first_bad}
use Rattle.text.specs.Numerals.{digits, value}
use Rattle.text.specs.Lines.{lines, unlines}
use Rattle.text.specs.Place.{put}
use Rattle.text.specs.Ranges.{Below}
use Rattle.text.proofs.QuestionLaws.{first_yes}
use Rattle.text.proofs.DigitLaws.{length_digits, digits_low, all-written, value_written}
use Rattle.text.proofs.LineLaws.{lines-unlines, written_no_lf}
use Rattle.text.proofs.PutLaws.{put_front}
use Rattle.text.proofs.RangeLaws.{below_append, below_zeros, below_part, below_mod}
use Rattle.files.proofs.FillLaws.{word_lt}
use Rattle.files.proofs.PutLaws.{length-text}
use Rattle.files.proofs.SizeLaws.{part-words, part-within, length_part, length_sectors, is-part}
use Rattle.files.specs.declared.FileError.{FileError}
use Rattle.files.specs.declared.WriteError.{WriteError}
use Rattle.files.specs.Sizes.{image_words, data_words, frame_bytes, sector_words, image_digits, word_digits, frame_digits, is_image_length, is_data_length, is_frame_length, is_part_length, is_disk_part}
use Rattle.files.specs.MemoryFile.{is_word, word_questions, lines_outcome, read_outcome, write_outcome, file_words, file_text, sectors_of, low48, SameImage}
use Rattle.files.specs.Answers.{file_read_outcome, written_outcome}
use Rattle.files.specs.Promises.{MemoryRead, TextWritten}

-- ---- the lines of a written text

text-lines : (k : ℕ) (m : List ℕ) → lines (file_text k m) ≡ map (digits 16 k) m
unfolding file_text
text-lines k m = lines-unlines (map (digits 16 k) m) (written_no_lf 16 k (omega arith) (omega arith) m)

written-word : (k w : ℕ) → is_word k (digits 16 k w) ≡ true
written-word k w = rw (length_digits, eq-eqb k k refl, all-written 16 (omega arith) (omega arith) k w)

-- Each of them is good where the memory has a word for it.
written-good : (k room i : ℕ) (ws : List ℕ) (t : Outcome) → i + length ws ≤ room → first_bad (word_questions k room) i (map (digits 16 k) ws) t ≡ t
unfolding first_bad
written-good k room i [] t h = refl
written-good k room i (w ∷ ws) t h = rw (lt-ltb i room (omega arith), written-word k w) (written-good k room (i + 1) ws t (omega arith))

written_values : (k : ℕ) (ws : List ℕ) → map (value 16) (map (digits 16 k) ws) ≡ map (λ w. w % 16 ^ k) ws
written_values k [] = refl
written_values k (w ∷ ws) = rw (value_written 16 (omega arith) (omega arith) k w, written_values k ws)

-- ---- a text that is written

module _ (file : List ℕ) where
  -- Writing succeeds where there is room, ..
  pub text-written : (is_right : Bool) (room : ℕ) → is_right ≡ true → length file ≤ room → write_outcome is_right file room ≡ accepted (length file)
  unfolding write_outcome
  text-written is_right room right fits = rw (right, le-leb (length file) room fits)

  -- .. the text stands at the front, and what stood after it still does.
  pub writing : (is_right : Bool) (out : List ℕ) (w : Result ℕ WriteError) (sent : List ℕ) → is_right ≡ true → length file ≤ length out → TextWritten is_right file out w sent
      → (written_outcome w ≡ accepted (length file)) × (take (length file) sent ≡ file) × (drop (length file) sent ≡ drop (length file) out)
  writing is_right out w sent right room p =
      let outcome = text-written is_right (length out) right room in
      let front = rw outcome at p.bytes ∙ put_front out file room in (
        p.answer ∙ outcome,
        rw (front, take-append_seam),
        rw (front, drop-append_seam),
      )

-- ---- over the digit count

module _ (k : ℕ) (m : List ℕ) where
  -- Reading the text succeeds, ..
  pub text-read : (is_right : ℕ → Bool) (n : ℕ) → is_right n ≡ true → n ≡ length m → read_outcome k is_right n (file_text k m) ≡ accepted 0
  unfolding read_outcome lines_outcome
  text-read is_right n right size =
      let good = ap (λ (ls : List (List ℕ)). first_bad (word_questions k n) 0 ls (accepted 0)) (text-lines k m)
      ∙ written-good k n 0 m (accepted 0) (rw (zero-add, size) (le_refl (length m))) in
      rw (right, good)

  -- .. and each word has its k low digits then, ..
  pub all_words : (n : ℕ) → n ≡ length m → file_words n (lines (file_text k m)) ≡ map (λ word. word % 16 ^ k) m
  unfolding file_words
  all_words n e =
      let none : n - length (map (digits 16 k) m) ≡ 0 = rw (length-map m (digits 16 k)) (omega arith) in
      rw (text-lines k m, written_values k m, none, append-nil)

  -- .. whatever the slice held.
  pub reading : (is_right : ℕ → Bool) (d : List ℕ) (r : Result (Unit {0}) FileError) (after : List ℕ) → is_right (length d) ≡ true → length d ≡ length m
      → MemoryRead k is_right (file_text k m) d r after
      → (file_read_outcome r ≡ accepted 0) × (after ≡ map (λ word. word % 16 ^ k) m)
  reading is_right d r after right size p =
      let outcome = text-read is_right (length d) right size in
      (p.answer ∙ outcome, rw outcome at p.words ∙ all_words (length d) size)

  -- Both: the text that was written is read.
  pub return_trip : (is_right : Bool) (is_right' : ℕ → Bool) (out d : List ℕ) (w : Result ℕ WriteError) (sent : List ℕ) (r : Result (Unit {0}) FileError) (after : List ℕ)
      → is_right ≡ true → is_right' (length d) ≡ true → length (file_text k m) ≤ length out → length d ≡ length m
      → TextWritten is_right (file_text k m) out w sent
      → MemoryRead k is_right' (take (length (file_text k m)) sent) d r after
      → (written_outcome w ≡ accepted (length (file_text k m))) × (file_read_outcome r ≡ accepted 0) × (after ≡ map (λ word. word % 16 ^ k) m)
  return_trip is_right is_right' out d w sent r after right right' room size p q =
      let wrote = writing (file_text k m) is_right out w sent right room p in
      let back = reading is_right' d r after right' size (rw wrote.1 at q) in
      (wrote.0, back.0, back.1)

-- ---- the four memories

-- A memory of n words, written whole and read.
module _ (k n : ℕ) (m out d : List ℕ) (w : Result ℕ WriteError) (sent : List ℕ) (r : Result (Unit {0}) FileError) (after : List ℕ)
    (size : length m ≡ n) (room : n * (k + 1) ≤ length out) (size' : length d ≡ n)
    (p : TextWritten (eqb (length m) n) (file_text k m) out w sent) (q : MemoryRead k (λ x. eqb x n) (take (n * (k + 1)) sent) d r after) where
  memory_returns : (written_outcome w ≡ accepted (n * (k + 1))) × (file_read_outcome r ≡ accepted 0) × (after ≡ map (λ word. word % 16 ^ k) m)
  memory_returns =
      let bytes : length (file_text k m) ≡ n * (k + 1) = rw (length-text, size) in
      let trip = return_trip k m (eqb (length m) n) (λ x. eqb x n) out d w sent r after
      (eq-eqb (length m) n size) (eq-eqb (length d) n size') (rw bytes room) (size' ∙ sym size) p (rw bytes q) in
      (trip.0 ∙ ap accepted bytes, trip.1, trip.2)

  -- Words of no more than k digits come back as they were.
  words_return : Below (16 ^ k) m → (written_outcome w ≡ accepted (n * (k + 1))) × (file_read_outcome r ≡ accepted 0) × (after ≡ m)
  words_return below = let trip = memory_returns in (trip.0, trip.1, trip.2 ∙ below_mod (16 ^ k) m below)

pub image_returns : (image out d : List ℕ) (w : Result ℕ WriteError) (sent : List ℕ) (r : Result (Unit {0}) FileError) (after : List ℕ)
    → length image ≡ image_words → 53248 ≤ length out → length d ≡ image_words
    → TextWritten (is_image_length (length image)) (file_text image_digits image) out w sent
    → MemoryRead image_digits is_image_length (take 53248 sent) d r after
    → (written_outcome w ≡ accepted 53248) × (file_read_outcome r ≡ accepted 0) × (after ≡ low48 image)
image_returns image out d w sent r after size room size' p q = memory_returns 12 4096 image out d w sent r after size room size' p q

-- The same image comes back; what is written of an image doesn't depend on bits above 47; and every image that is read has zeros there.
pub same-image_returns : (image : List ℕ) → SameImage (low48 image) image
same-image_returns [] = refl
same-image_returns (w ∷ ws) = rw (mod-mod, same-image_returns ws)

pub high_bits_not_written : (image : List ℕ) → file_text image_digits (low48 image) ≡ file_text image_digits image
unfolding file_text unlines
high_bits_not_written [] = refl
high_bits_not_written (w ∷ ws) = rw (digits_low 16 (omega arith) 12 w, high_bits_not_written ws)

good-words_below : (k room i : ℕ) (ls : List (List ℕ)) (t : Outcome) → (first_bad (word_questions k room) i ls t).number ≡ 0 → Below (16 ^ k) (map (value 16) ls)
unfolding first_bad
good-words_below k room i [] t good n = one-le-pow k 16 (omega arith)
good-words_below k room i (l ∷ ls) t good zero =
    let left = first_yes 10 (i + 1) (ltb i room) _ (omega arith) good in
    word_lt k l (first_yes 9 (i + 1) (is_word k l) _ (omega arith) left.1).0
good-words_below k room i (l ∷ ls) t good (suc n) =
    let left = first_yes 10 (i + 1) (ltb i room) _ (omega arith) good in
    good-words_below k room (i + 1) ls t (first_yes 9 (i + 1) (is_word k l) _ (omega arith) left.1).1 n

pub high_bits-read-zero : (text image : List ℕ) (after : List ℕ) → MemoryRead image_digits is_image_length text image (Ok tt) after → Below (2 ^ 48) after
unfolding read_outcome lines_outcome file_words
high_bits-read-zero text image after p =
    let outcome = ap (λ (t : Outcome). t.number) (sym p.answer) in
    rw (rw outcome at p.words) (below_append (2 ^ 48) (map (value 16) (lines text)) (replicate (length image - length (lines text)) 0) (good-lines text outcome)
    (below_zeros (2 ^ 48) (omega arith) (length image - length (lines text))))
  where
    good-lines : (text : List ℕ) → (read_outcome image_digits is_image_length (length image) text).number ≡ 0 → Below (2 ^ 48) (map (value 16) (lines text))
    good-lines text outcome = good-words_below 12 (length image) 0 (lines text) (accepted 0) (first_yes 1 0 (is_image_length (length image)) _ (omega arith) outcome).1

pub data_returns : (memory out d : List ℕ) (w : Result ℕ WriteError) (sent : List ℕ) (r : Result (Unit {0}) FileError) (after : List ℕ)
    → length memory ≡ data_words → Below (2 ^ 32) memory → 36864 ≤ length out → length d ≡ data_words
    → TextWritten (is_data_length (length memory)) (file_text word_digits memory) out w sent
    → MemoryRead word_digits is_data_length (take 36864 sent) d r after
    → (written_outcome w ≡ accepted 36864) × (file_read_outcome r ≡ accepted 0) × (after ≡ memory)
data_returns memory out d w sent r after size below room size' p q = words_return 8 4096 memory out d w sent r after size room size' p q below

pub frame_returns : (frame out d : List ℕ) (w : Result ℕ WriteError) (sent : List ℕ) (r : Result (Unit {0}) FileError) (after : List ℕ)
    → length frame ≡ frame_bytes → Below (2 ^ 8) frame → 196608 ≤ length out → length d ≡ frame_bytes
    → TextWritten (is_frame_length (length frame)) (file_text frame_digits frame) out w sent
    → MemoryRead frame_digits is_frame_length (take 196608 sent) d r after
    → (written_outcome w ≡ accepted 196608) × (file_read_outcome r ≡ accepted 0) × (after ≡ frame)
frame_returns frame out d w sent r after size below room size' p q = words_return 2 65536 frame out d w sent r after size room size' p q below

-- A part of the disk, read into a part of as many sectors.
pub disk_returns : (disk out d : List ℕ) (first sectors : ℕ) (w : Result ℕ WriteError) (sent : List ℕ) (r : Result (Unit {0}) FileError) (after : List ℕ)
    → is_disk_part (length disk) first sectors ≡ true → Below (2 ^ 32) disk → 1152 * sectors ≤ length out → length d ≡ sector_words * sectors
    → TextWritten (is_disk_part (length disk) first sectors) (file_text word_digits (sectors_of disk first sectors)) out w sent
    → MemoryRead word_digits is_part_length (take (1152 * sectors) sent) d r after
    → (written_outcome w ≡ accepted (1152 * sectors)) × (file_read_outcome r ≡ accepted 0) × (after ≡ sectors_of disk first sectors)
disk_returns disk out d first sectors w sent r after right below room size p q =
    let part = sectors_of disk first sectors in
    let bytes = length_part disk first sectors right in
    let trip = return_trip 8 part (is_disk_part (length disk) first sectors) is_part_length out d w sent r after
    right (is-part disk first sectors right (length d) size) (rw bytes room) (size ∙ sym (length_sectors disk first sectors right)) p (rw bytes q) in
    (trip.0 ∙ ap accepted bytes, trip.1, trip.2 ∙ below_mod (2 ^ 32) part (below_part (2 ^ 32) (128 * sectors) (128 * first) disk below))

-- Put in its place, the part leaves the disk the same.
pub part_in_place : (disk : List ℕ) (first sectors : ℕ) → is_disk_part (length disk) first sectors ≡ true
    → put disk (sector_words * first) (sectors_of disk first sectors) ≡ disk
unfolding put
part_in_place disk first sectors right =
    let within = part-within (length disk) first sectors right in
    let words = part-words (length disk) first sectors right in
    let size = length_sectors disk first sectors right in
    sets-eq (sectors_of disk first sectors) disk (128 * first) (rw size (omega arith))
    ∙ rw (size, ← take-add (128 * first) (128 * sectors) disk, take-append-drop)
