-- The return trip: "A written image reads back the same, for the data memory and for the 64 KiB disk, shown once over the length." In the statements m is
-- any memory of a multiple of 4 words, at most 16,384 of them. Assumes nothing.
use Rattle.std.specs.Prelude.{Result}
use Prim.Native.Nat.{ℕ, zero, suc, ◌+◌, ◌*◌, ◌/◌, ◌%◌, ◌^◌, ◌≤◌, ◌<◌}
use mathlib.Core.Path.{◌≡◌, refl, sym, ◌∙◌, ap}
use mathlib.Core.Bool.{false}
use mathlib.Core.List.{List, [], ◌∷◌, map}
use native.Mathlib.Nat.{div-div-eq-div-mul, div-add-mod', mod-eq_of_lt}
use native.Mathlib.Omega.{arith}
use lib.ListN.{length, take, drop, replicate, length-drop, length-replicate, take-append-drop}
use lib.Seq.{length-take-le, get_or-drop}
use lib.Dec.{eqb}
use borrow.Author.Tests.{le-leb, eq-eqb}
use Rattle.text.specs.Questions.{accepted}
use Rattle.text.specs.Numerals.{digits, all_digits}
use Rattle.text.specs.Place.{put}
use Rattle.text.specs.Ranges.{Below}
use Rattle.text.proofs.PutLaws.{put_nil, put-append, put_all}
use Rattle.text.proofs.RangeLaws.{below_append, below_part}
use Rattle.text.proofs.LineLaws.{NoneLF, lines-unlines}
use Rattle.intel_hex.specs.Words.{first_word, words_of, word_bytes, memory_bytes}
use Rattle.intel_hex.specs.declared.HexError.{HexError}
use Rattle.intel_hex.specs.Record.{pair_values, total, line_bytes, address, data_bytes, is_record}
use Rattle.intel_hex.specs.Reading.{without_cr, record_lines, records_outcome, hex_outcome, put_records, hex_words}
use Rattle.intel_hex.specs.Writing.{byte_pairs, data_record, record_line, data_lines, end_line, hex_text}
use Rattle.intel_hex.specs.Answers.{hex_read_outcome}
use Rattle.intel_hex.specs.Promises.{HexFileRead}
use Rattle.intel_hex.proofs.OutcomeLaws.{told, told_is}
use Rattle.intel_hex.proofs.WrittenLaws.{line_no_lf, line_no_cr, data_count_lem, data_address, data_kind, data_data, data_record_lem}
use Rattle.intel_hex.proofs.PutLaws.{length-bytes, all_lines}

-- ---- words and their bytes

-- They are below 256.
below_word : (w : ℕ) → Below 256 (word_bytes w)
below_word w zero = omega arith
below_word w (suc zero) = omega arith
below_word w (suc (suc zero)) = omega arith
below_word w (suc (suc (suc zero))) = omega arith
below_word w (suc (suc (suc (suc n)))) = omega arith

below_bytes : (ws : List ℕ) → Below 256 (memory_bytes ws)
unfolding memory_bytes
below_bytes [] = λ n. omega arith
below_bytes (w ∷ ws) = below_append 256 (word_bytes w) (memory_bytes ws) (below_word w) (below_bytes ws)

-- A word, and a memory, is that of its bytes.
word_back : (w : ℕ) → w < 2 ^ 32 → first_word (word_bytes w) ≡ w
word_back w h =
    let second : w / 256 / 256 ≡ w / 0x10000 = div-div-eq-div-mul w 256 256 in
    let third : w / 256 / 256 / 256 ≡ w / 0x1000000 = rw second (div-div-eq-div-mul w 0x10000 256) in
    let top : w / 0x1000000 < 256 = omega arith in
    rw (mod-eq_of_lt top, ← third, ← second, div-add-mod' (w / 256 / 256) 256, div-add-mod' (w / 256) 256, div-add-mod' w 256)

pub words_back : (ws : List ℕ) → Below (2 ^ 32) ws → words_of (length ws) (memory_bytes ws) ≡ ws
unfolding memory_bytes words_of
words_back [] h = refl
words_back (w ∷ ws) h =
    let first = word_back w (h 0) in
    rw (first, words_back ws (λ n. h (suc n)))

-- ---- the lines that are written

-- The end is a record without data.
end_line_lem : end_line ≡ record_line (0 ∷ 0 ∷ 0 ∷ 1 ∷ [])
unfolding record_line byte_pairs digits total
end_line_lem = refl

-- No line has an LF, or a CR to lose.
lines_no_lf : (n at : ℕ) (bs : List ℕ) → NoneLF (all_lines n at bs)
unfolding NoneLF data_lines
lines_no_lf zero at bs = (rw end_line_lem (line_no_lf (0 ∷ 0 ∷ 0 ∷ 1 ∷ [])), tt)
lines_no_lf (suc n) at bs = (line_no_lf (data_record at (take 16 bs)), lines_no_lf n (at + 16) (drop 16 bs))

lines_no_cr : (n at : ℕ) (bs : List ℕ) → map without_cr (all_lines n at bs) ≡ all_lines n at bs
unfolding data_lines without_cr
lines_no_cr zero at bs = refl
lines_no_cr (suc n) at bs = rw (line_no_cr (data_record at (take 16 bs)), lines_no_cr n (at + 16) (drop 16 bs))

-- So they are the lines of the text.
pub lines-back : (m : List ℕ) → record_lines (hex_text m) ≡ all_lines (length m / 4) 0 (memory_bytes m)
unfolding hex_text
lines-back m =
    let n = length m / 4 in
    ap (map without_cr) (lines-unlines (all_lines n 0 (memory_bytes m)) (lines_no_lf n 0 (memory_bytes m))) ∙ lines_no_cr n 0 (memory_bytes m)

-- ---- they are good, and put the bytes

-- Where no record is left no byte is; the end puts none.
none_left : (bs : List ℕ) → length bs ≡ 16 * 0 → bs ≡ []
none_left [] e = refl
none_left (b ∷ bs) e = absurd (omega arith)

end_puts : (memory : List ℕ) → put memory (address (line_bytes end_line)) (data_bytes (line_bytes end_line)) ≡ memory
unfolding pair_values put
end_puts memory = refl

-- The first 16 of the bytes of n + 1 records, and the others.
module _ (n : ℕ) (bs : List ℕ) (size : length bs ≡ 16 * suc n) where
  first_size : length (take 16 bs) ≡ 16
  first_size = length-take-le 16 bs (omega arith)

  rest_size : length (drop 16 bs) ≡ 16 * n
  rest_size = rw length-drop (omega arith)

module _ (bs : List ℕ) (small : Below 256 bs) where
  first_small : Below 256 (take 16 bs)
  first_small = below_part 256 16 0 bs small

  rest-small : Below 256 (drop 16 bs)
  rest-small n = rw (get_or-drop 16 bs n 0) (small (16 + n))

-- No line is refused: each record begins where the one before it ended.
lines-told : (room : ℕ) → room ≤ 65536 → (n at free i : ℕ) (bs : List ℕ) → free ≤ at → at + 16 * n ≤ room → length bs ≡ 16 * n → Below 256 bs
    → told room free i (all_lines n at bs) ≡ accepted 0
unfolding told data_lines is_record pair_values all_digits total
lines-told room within zero at free i bs low fits size small = refl
lines-told room within (suc n) at free i bs low fits size small =
    let high : at < 65536 = omega arith in
    let first = first_size n bs size in
    let few : length (take 16 bs) < 256 = rw first (omega arith) in
    let sb = first_small bs small in
    rw (data_record_lem at (take 16 bs) high few sb, data_kind at (take 16 bs) high few sb, data_count_lem at (take 16 bs) high few sb, data_address at (take 16 bs) high few sb, first, le-leb free at low, le-leb (at + 16) room (omega arith))
    (lines-told room within n (at + 16) (at + 16) (i + 1) (drop 16 bs) (omega arith) (omega arith) (rest_size n bs size) (rest-small bs small))

-- A data record puts its data, ..
put_first : (at : ℕ) (bs : List ℕ) → at < 65536 → length bs < 256 → Below 256 bs → (memory : List ℕ) (ls : List (List ℕ))
    → put_records memory (record_line (data_record at bs) ∷ ls) ≡ put_records (put memory at bs) ls
unfolding put_records
put_first at bs high few small memory ls =
    ap (λ (a : ℕ). put_records (put memory a (data_bytes (line_bytes (record_line (data_record at bs))))) ls) (data_address at bs high few small)
    ∙ ap (λ (d : List ℕ). put_records (put memory at d) ls) (data_data at bs high few small)

-- .. and all of them put the bytes that they were made of.
lines-put : (n at : ℕ) (bs memory : List ℕ) → at + 16 * n ≤ 65536 → length bs ≡ 16 * n → Below 256 bs
    → put_records memory (all_lines n at bs) ≡ put memory at bs
unfolding put_records data_lines
lines-put zero at bs memory fits size small = rw (none_left bs size, put_nil, end_puts memory)
lines-put (suc n) at bs memory fits size small =
    let high : at < 65536 = omega arith in
    let first = first_size n bs size in
    let few : length (take 16 bs) < 256 = rw first (omega arith) in
    let sb = first_small bs small in
    put_first at (take 16 bs) high few sb memory (all_lines n (at + 16) (drop 16 bs))
    ∙ lines-put n (at + 16) (drop 16 bs) (put memory at (take 16 bs)) (omega arith) (rest_size n bs size) (rest-small bs small)
    ∙ ap (λ (k : ℕ). put (put memory at (take 16 bs)) (at + k) (drop 16 bs)) (sym first)
    ∙ sym (put-append memory at (take 16 bs) (drop 16 bs))
    ∙ ap (put memory at) (take-append-drop 16 bs)

-- ---- all of it

module _ (m : List ℕ) (fours : length m % 4 ≡ 0) (within : 4 * length m ≤ 65536) where
  -- The records of the text are good, ..
  pub lines-good : records_outcome (4 * length m) (record_lines (hex_text m)) ≡ accepted 0
  lines-good =
      rw (lines-back m, told_is)
      (lines-told (4 * length m) within (length m / 4) 0 0 0 (memory_bytes m) (omega arith) (omega arith) (length-bytes m ∙ omega arith) (below_bytes m))

  -- .. and give its words.
  pub words-read : Below (2 ^ 32) m → hex_words (length m) (hex_text m) ≡ m
  unfolding hex_words
  words-read small =
      let zeros : List ℕ = replicate (4 * length m) 0 in
      let all : length (memory_bytes m) ≡ length zeros = length-bytes m ∙ sym (length-replicate (4 * length m) 0) in
      rw (lines-back m, lines-put (length m / 4) 0 (memory_bytes m) zeros (omega arith) (length-bytes m ∙ omega arith) (below_bytes m), put_all zeros (memory_bytes m) all)
      (words_back m small)

  -- So the text is accepted, ..
  pub text-read : (words n : ℕ) → n ≡ words → length m ≡ words → hex_outcome words n (hex_text m) ≡ accepted 0
  unfolding hex_outcome
  text-read words n size size' = let same : n ≡ length m = size ∙ sym size' in rw (eq-eqb n words size, same) lines-good

  -- .. and reading it gives the memory back, whatever the memory lent, d, held.
  pub reading : Below (2 ^ 32) m → (words : ℕ) (d : List ℕ) (r : Result (Unit {0}) HexError) (after : List ℕ) → length d ≡ words → length m ≡ words
      → HexFileRead words (hex_text m) d r after
      → (hex_read_outcome r ≡ accepted 0) × (after ≡ m)
  reading small words d r after size size' p =
      let good = text-read words (length d) size size' in
      let same : length d ≡ length m = size ∙ sym size' in
      (p.answer ∙ good, rw good at p.words ∙ rw same (words-read small))

-- A refused text changes no word.
pub refused-keeps : (size : ℕ) (text d : List ℕ) (r : Result (Unit {0}) HexError) (after : List ℕ) → HexFileRead size text d r after → eqb (hex_read_outcome r).number 0 ≡ false → after ≡ d
refused-keeps size text d r after p e = p.words ∙ rw (← p.answer, e)
