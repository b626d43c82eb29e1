-- Laws of memories put as Intel HEX. Assumes nothing.
use Prim.Native.Nat.{ℕ, zero, suc, ◌+◌, ◌-◌, ◌*◌, ◌/◌, ◌%◌, ◌^◌, ◌≤◌, ◌<◌}
use Prim.Native.Char.{code}
use mathlib.Core.Path.{◌≡◌, refl, sym, ◌∙◌, ap}
use mathlib.Core.List.{List, [], ◌∷◌, ◌++◌, append_assoc, append-nil}
use native.Mathlib.Nat.{div-div-eq-div-mul, mod-eq_of_lt}
use native.Mathlib.Omega.{arith}
use native.Mathlib.Numerals.{add-one}
use lib.ListN.{length, get_or, take, drop, set, length-append, length-drop, drop_of_length-le, take-append-drop}
use lib.Seq.{drop-cons, drop-drop, take_at, drop_at, length-take-le}
use Rattle.text.specs.Numerals.{digits}
use Rattle.text.specs.Lines.{LF, unlines}
use Rattle.text.specs.Bytes.{bytes}
use Rattle.text.specs.Place.{put}
use Rattle.text.proofs.DigitLaws.{length_digits, digits_split, digits_low}
use Rattle.text.proofs.PutLaws.{put_nil, put-append}
use Rattle.text.proofs.PieceLaws.{more, after_store, store_after}
use Rattle.intel_hex.specs.Words.{word_bytes, memory_bytes}
use Rattle.intel_hex.specs.Record.{total}
use Rattle.intel_hex.specs.Writing.{byte_pairs, data_record, record_line, data_lines, end_line, hex_text}
use Rattle.intel_hex.proofs.PairLaws.{total-append}
use Rattle.intel_hex.proofs.WrittenLaws.{length_pairs, length-line}

-- ---- words, their bytes and digits

pub length-bytes : (ws : List ℕ) → length (memory_bytes ws) ≡ 4 * length ws
unfolding memory_bytes
length-bytes [] = refl
length-bytes (w ∷ ws) = let rest = length-bytes ws in omega arith

bytes-append : (xs ys : List ℕ) → memory_bytes (xs ++ ys) ≡ memory_bytes xs ++ memory_bytes ys
unfolding memory_bytes
bytes-append [] ys = refl
bytes-append (x ∷ xs) ys = rw (bytes-append xs ys)

pairs_append : (xs ys : List ℕ) → byte_pairs (xs ++ ys) ≡ byte_pairs xs ++ byte_pairs ys
unfolding byte_pairs
pairs_append [] ys = refl
pairs_append (x ∷ xs) ys = rw (append_assoc, ← pairs_append xs ys)

-- The eight digits of a word are the pairs of its bytes.
word-digits : (w : ℕ) → digits 16 8 w ≡ byte_pairs (word_bytes w)
unfolding byte_pairs
word-digits w =
    let some : 0 < 16 = omega arith in
    let second : w / 256 / 256 ≡ w / 0x10000 = div-div-eq-div-mul w 256 256 in
    let third : w / 256 / 256 / 256 ≡ w / 0x1000000 = rw second (div-div-eq-div-mul w 0x10000 256) in
    digits_split 16 some 6 2 w
    ∙ rw (digits_split 16 some 4 2 (w / 256), digits_split 16 some 2 2 (w / 256 / 256), third, second, ← digits_low 16 some 2 (w / 0x1000000), append-nil) (simp append_assoc)

-- ---- word by word

-- Two sums in one number, that of the low two bytes of words and that of the high two in the upper half; ..
module _ (sums s low high : ℕ) (e : s ≡ low + high * 0x10000) (few : sums % 0x10000 + low < 0x10000) where
  low_more : (sums + s) % 0x10000 ≡ sums % 0x10000 + low
  low_more = omega arith

  high_more : (sums + s) / 0x10000 ≡ sums / 0x10000 + high
  high_more = omega arith

-- .. with those of a word more.
module _ (sums w s : ℕ) (e : s ≡ w % 256 + w / 256 % 256 + (w / 0x10000 % 256 + w / 0x1000000) * 0x10000) (h : w < 2 ^ 32) (few : sums % 0x10000 < 2040) where
  low : (sums + s) % 0x10000 ≡ sums % 0x10000 + (w % 256 + w / 256 % 256)
  low = low_more sums s (w % 256 + w / 256 % 256) (w / 0x10000 % 256 + w / 0x1000000) e (omega arith)

  high : (sums + s) / 0x10000 ≡ sums / 0x10000 + (w / 0x10000 % 256 + w / 0x1000000)
  high = high_more sums s (w % 256 + w / 256 % 256) (w / 0x10000 % 256 + w / 0x1000000) e (omega arith)

  pub low_le : (sums + s) % 0x10000 ≤ sums % 0x10000 + 510
  low_le = rw low (omega arith)

  pub high_le : (sums + s) / 0x10000 ≤ sums / 0x10000 + 510
  high_le = rw high (omega arith)

  word_more : (sums + s) % 0x10000 + (sums + s) / 0x10000 ≡ sums % 0x10000 + sums / 0x10000 + total (memory_bytes (w ∷ []))
  unfolding total memory_bytes
  word_more = let top : w / 0x1000000 % 256 ≡ w / 0x1000000 = mod-eq_of_lt (omega arith) in rw (low, high, top) (omega arith)

-- A turn of the loops over words, at the word i.
module _ (ws : List ℕ) (i : ℕ) where
  first-bytes : i < length ws → memory_bytes (drop i ws) ≡ memory_bytes (get_or ws i 0 ∷ []) ++ memory_bytes (drop (i + 1) ws)
  first-bytes h = rw (add-one i, drop-cons ws i 0 h) (bytes-append (get_or ws i 0 ∷ []) (drop (suc i) ws))

  pub sum_turn : (sums s : ℕ) → i < length ws → s ≡ get_or ws i 0 % 256 + get_or ws i 0 / 256 % 256 + (get_or ws i 0 / 0x10000 % 256 + get_or ws i 0 / 0x1000000) * 0x10000
      → get_or ws i 0 < 2 ^ 32 → sums % 0x10000 < 2040
      → (sums + s) % 0x10000 + (sums + s) / 0x10000 + total (memory_bytes (drop (i + 1) ws)) ≡ sums % 0x10000 + sums / 0x10000 + total (memory_bytes (drop i ws))
  sum_turn sums s h e small few =
      let both = ap total (first-bytes h) ∙ total-append (memory_bytes (get_or ws i 0 ∷ [])) (memory_bytes (drop (i + 1) ws)) in
      let more = word_more sums (get_or ws i 0) s e small few in
      omega arith

  pub sum_end : (sum : ℕ) → length ws ≤ i → sum ≡ sum + total (memory_bytes (drop i ws))
  unfolding total memory_bytes
  sum_end sum h = rw (drop_of_length-le ws h) (omega arith)

  pub digits_turn : (out e : List ℕ) (at : ℕ) → i < length ws → e ≡ put out (at + i * 8) (digits 16 8 (get_or ws i 0))
      → put e (at + (i + 1) * 8) (byte_pairs (memory_bytes (drop (i + 1) ws))) ≡ put out (at + i * 8) (byte_pairs (memory_bytes (drop i ws)))
  unfolding memory_bytes
  digits_turn out e at h r =
      let w = get_or ws i 0 in
      let next : at + (i + 1) * 8 ≡ at + i * 8 + 8 = omega arith in
      let size : length (byte_pairs (word_bytes w)) ≡ 8 = length_pairs (word_bytes w) in
      let whole : byte_pairs (memory_bytes (drop i ws)) ≡ byte_pairs (word_bytes w) ++ byte_pairs (memory_bytes (drop (i + 1) ws)) =
      ap byte_pairs (first-bytes h) ∙ pairs_append (word_bytes w) (memory_bytes (drop (i + 1) ws)) in
      rw (next, r, word-digits w, whole, put-append, size)

  pub digits-end : (out : List ℕ) (at : ℕ) → length ws ≤ i → out ≡ put out at (byte_pairs (memory_bytes (drop i ws)))
  unfolding memory_bytes byte_pairs
  digits-end out at h = rw (drop_of_length-le ws h, put_nil)

-- ---- a record

-- Count, address and type of 16 data bytes are the bytes of one word.
head_word : (a : ℕ) → a < 65536 → word_bytes (a * 256 + 0x10000000) ≡ 16 ∷ a / 256 ∷ a % 256 ∷ 0 ∷ []
head_word a h =
    let b0 : (a * 256 + 0x10000000) / 0x1000000 % 256 ≡ 16 = omega arith in
    let b1 : (a * 256 + 0x10000000) / 0x10000 % 256 ≡ a / 256 = omega arith in
    let b2 : (a * 256 + 0x10000000) / 256 % 256 ≡ a % 256 = omega arith in
    let b3 : (a * 256 + 0x10000000) % 256 ≡ 0 = omega arith in
    rw (b0, b1, b2, b3)

one-pair : (b : ℕ) → byte_pairs (b ∷ []) ≡ digits 16 2 b
unfolding byte_pairs
one-pair b = append-nil (digits 16 2 b)

-- Its line in pieces: `:`, that word's digits, those of the data, and the checksum's, of a sum that was computed.
line-is : (ws : List ℕ) (a sum : ℕ) → length ws ≡ 4 → a < 65536 → sum ≡ total (memory_bytes ws) + (16 + a / 256 + a % 256)
    → ((code ":" ∷ digits 16 8 (a * 256 + 0x10000000)) ++ byte_pairs (memory_bytes ws)) ++ digits 16 2 ((256 - sum % 256) % 256)
    ≡ record_line (data_record a (memory_bytes ws))
unfolding record_line total
line-is ws a sum four h e =
    let bs = memory_bytes ws in
    let head : List ℕ = 16 ∷ a / 256 ∷ a % 256 ∷ 0 ∷ [] in
    let last = (256 - sum % 256) % 256 in
    let count : length bs ≡ 16 = length-bytes ws ∙ rw four in
    let front : digits 16 8 (a * 256 + 0x10000000) ≡ byte_pairs head = word-digits (a * 256 + 0x10000000) ∙ ap byte_pairs (head_word a h) in
    let all : sum ≡ total (16 ∷ a / 256 ∷ a % 256 ∷ 0 ∷ bs) = omega arith in
    let whole : byte_pairs (head ++ (bs ++ (last ∷ []))) ≡ byte_pairs head ++ (byte_pairs bs ++ digits 16 2 last) =
    pairs_append head (bs ++ (last ∷ [])) ∙ rw (pairs_append bs (last ∷ []), one-pair last) in
    rw (count, front, ← all) (ap (λ (l : List ℕ). code ":" ∷ l) (append_assoc (byte_pairs head) (byte_pairs bs) (digits 16 2 last) ∙ sym whole))

-- The pieces put one after the other, and an LF.
module _ (ws : List ℕ) (a : ℕ) (out : List ℕ) (at : ℕ) (four : length ws ≡ 4) (h : a < 65536) where
  pub record_put : (e1 e2 e3 : List ℕ) (sum : ℕ)
      → e1 ≡ put (set out at (code ":")) (at + 1) (digits 16 8 (a * 256 + 0x10000000))
      → e2 ≡ put e1 (at + 9) (byte_pairs (memory_bytes ws))
      → sum ≡ total (memory_bytes ws) + (16 + a / 256 + a % 256)
      → e3 ≡ put e2 (at + 41) (digits 16 2 ((256 - sum % 256) % 256))
      → set e3 (at + 43) LF ≡ put out at (record_line (data_record a (memory_bytes ws)) ++ (LF ∷ []))
  record_put e1 e2 e3 sum q1 q2 q q3 =
      let head = digits 16 8 (a * 256 + 0x10000000) in
      let body = byte_pairs (memory_bytes ws) in
      let last = digits 16 2 ((256 - sum % 256) % 256) in
      let head-size : length head ≡ 8 = length_digits 16 8 (a * 256 + 0x10000000) in
      let body-size : length body ≡ 32 = length_pairs (memory_bytes ws) ∙ rw (length-bytes ws, four) in
      let last-size : length last ≡ 2 = length_digits 16 2 ((256 - sum % 256) % 256) in
      let front-size = length-append (code ":" ∷ head) body in
      let whole-size = length-append ((code ":" ∷ head) ++ body) last in
      let p1 = after_store out e1 at (at + 1) (code ":") head refl q1 in
      let p2 = more out e1 e2 at (at + 9) (code ":" ∷ head) body (omega arith) p1 q2 in
      let p3 = more out e2 e3 at (at + 41) ((code ":" ∷ head) ++ body) last (omega arith) p2 q3 in
      store_after out e3 at (at + 43) LF (((code ":" ∷ head) ++ body) ++ last) (omega arith) p3
      ∙ ap (λ (l : List ℕ). put out at (l ++ (LF ∷ []))) (line-is ws a sum four h q)

-- ---- record after record

-- The lines of n data records and of the end.
abbrev pub all_lines : (n at : ℕ) → List ℕ → List (List ℕ)
all_lines n at bs = data_lines n at bs ++ (end_line ∷ [])

-- The first 16 bytes are those of the first four words.
module _ (ws : List ℕ) (h : 4 ≤ length ws) where
  split_bytes : memory_bytes ws ≡ memory_bytes (take 4 ws) ++ memory_bytes (drop 4 ws)
  split_bytes = ap memory_bytes (sym (take-append-drop 4 ws)) ∙ bytes-append (take 4 ws) (drop 4 ws)

  sixteen : length (memory_bytes (take 4 ws)) ≡ 16
  sixteen = length-bytes (take 4 ws) ∙ rw (length-take-le 4 ws h)

  first_four : take 16 (memory_bytes ws) ≡ memory_bytes (take 4 ws)
  first_four = rw split_bytes (take_at (memory_bytes (take 4 ws)) (memory_bytes (drop 4 ws)) 16 sixteen)

  after_four : drop 16 (memory_bytes ws) ≡ memory_bytes (drop 4 ws)
  after_four = rw split_bytes (drop_at (memory_bytes (take 4 ws)) (memory_bytes (drop 4 ws)) 16 sixteen)

-- The text from the word i on.
abbrev pub rest_text : List ℕ → ℕ → List ℕ
rest_text ws i = unlines (all_lines ((length ws - i) / 4) (4 * i) (memory_bytes (drop i ws)))

-- A turn of the loop over records, at the word i.
module _ (ws : List ℕ) (i : ℕ) where
  -- The line of the words from i on, as they are lent.
  abbrev line_at : List ℕ
  line_at = record_line (data_record (4 * i) (memory_bytes (take (i + 4 - i) (drop i ws)))) ++ (LF ∷ [])

  rest-first : i + 4 ≤ length ws → rest_text ws i ≡ line_at ++ rest_text ws (i + 4)
  unfolding data_lines unlines
  rest-first h =
      let count : (length ws - i) / 4 ≡ suc ((length ws - (i + 4)) / 4) = omega arith in
      let next : 4 * (i + 4) ≡ 4 * i + 16 = omega arith in
      let four : i + 4 - i ≡ 4 = omega arith in
      let long : 4 ≤ length (drop i ws) = rw length-drop (omega arith) in
      rw (count, next, four, first_four (drop i ws) long, after_four (drop i ws) long, drop-drop, append_assoc)

  length-here : i + 4 ≤ length ws → length line_at ≡ 44
  length-here h =
      let four : i + 4 - i ≡ 4 = omega arith in
      let long : 4 ≤ length (drop i ws) = rw length-drop (omega arith) in
      let line = length-line (data_record (4 * i) (memory_bytes (take 4 (drop i ws)))) in
      let size = sixteen (drop i ws) long in
      rw four (length-append (record_line (data_record (4 * i) (memory_bytes (take 4 (drop i ws))))) (LF ∷ []) ∙ omega arith)

  pub text_turn : (out e : List ℕ) (p : ℕ) → i + 4 ≤ length ws → e ≡ put out p line_at → put e (p + 44) (rest_text ws (i + 4)) ≡ put out p (rest_text ws i)
  text_turn out e p h q = rw (q, rest-first h, put-append out p line_at (rest_text ws (i + 4)), length-here h)

  pub text-end : length ws ≤ i → bytes ":00000001FF\n" ≡ rest_text ws i
  unfolding data_lines unlines
  text-end h =
      let none : (length ws - i) / 4 ≡ 0 = omega arith in
      rw none

-- ---- the length of a text

length-lines : (n at : ℕ) (bs : List ℕ) → length bs ≡ 16 * n → length (unlines (all_lines n at bs)) ≡ 44 * n + 12
unfolding data_lines unlines
length-lines zero at bs h = refl
length-lines (suc n) at bs h =
    let line = length-line (data_record at (take 16 bs)) in
    let first = length-take-le 16 bs (omega arith) in
    let rest = length-lines n (at + 16) (drop 16 bs) (rw length-drop (omega arith)) in
    length-append (record_line (data_record at (take 16 bs))) _ ∙ omega arith

-- 44 bytes for each four words, and 12 for the end.
pub length-text : (ws : List ℕ) → length ws % 4 ≡ 0 → length (hex_text ws) ≡ 11 * length ws + 12
unfolding hex_text
length-text ws h = length-lines (length ws / 4) 0 (memory_bytes ws) (length-bytes ws ∙ omega arith) ∙ omega arith
