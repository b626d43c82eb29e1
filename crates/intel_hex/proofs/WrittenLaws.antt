-- What is written as a record is read as that record. Assumes nothing.
use Prim.Native.Nat.{ℕ, zero, suc, ◌+◌, ◌-◌, ◌*◌, ◌/◌, ◌%◌, ◌<◌}
use Prim.Native.Char.{code}
use mathlib.Core.Path.{◌≡◌, refl, ◌∙◌}
use mathlib.Core.Bool.{true}
use mathlib.Core.List.{List, [], ◌∷◌, ◌++◌}
use native.Mathlib.Nat.{mod-lt}
use native.Mathlib.Omega.{arith}
use lib.ListN.{length, get_or, drop, length-append}
use lib.Seq.{take-append_seam}
use borrow.Author.Tests.{eq-eqb}
use Rattle.text.specs.Numerals.{digits, all_digits}
use Rattle.text.specs.Ranges.{Below}
use Rattle.text.proofs.RangeLaws.{below_append}
use Rattle.text.proofs.DigitLaws.{digit-back, length_digits, all_digits_lem}
use Rattle.text.proofs.LineLaws.{NoLF, digits_no_lf}
use Rattle.intel_hex.specs.Record.{pair_values, line_bytes, total, data_count, address, kind, data_bytes, is_record, checksum}
use Rattle.intel_hex.specs.Reading.{without_cr}
use Rattle.intel_hex.specs.Writing.{byte_pairs, data_record, record_line}
use Rattle.intel_hex.proofs.PairLaws.{total-append}
use Rattle.intel_hex.proofs.RecordLaws.{no_cr}

-- ---- pairs of digits

-- Bytes read back from their pairs.
pairs_back : (bs : List ℕ) → Below 256 bs → pair_values (byte_pairs bs) ≡ bs
unfolding pair_values byte_pairs digits
pairs_back [] h = refl
pairs_back (b ∷ bs) h =
    let small : b < 256 = h 0 in
    let high : b / 16 % 16 < 16 = omega arith in
    let low : b % 16 < 16 = omega arith in
    let whole : b / 16 % 16 * 16 + b % 16 ≡ b = omega arith in
    rw (digit-back (b / 16 % 16) high, digit-back (b % 16) low, whole, pairs_back bs (λ n. h (suc n)))

pub length_pairs : (bs : List ℕ) → length (byte_pairs bs) ≡ 2 * length bs
unfolding byte_pairs
length_pairs [] = refl
length_pairs (b ∷ bs) = length-append (digits 16 2 b) (byte_pairs bs) ∙ rw (length_digits 16 2 b, length_pairs bs) (omega arith)

pairs_digits : (bs : List ℕ) → all_digits 16 (byte_pairs bs) ≡ true
unfolding byte_pairs all_digits
pairs_digits [] = refl
pairs_digits (b ∷ bs) = all_digits_lem 16 (omega arith) (omega arith) 2 b (byte_pairs bs) ∙ pairs_digits bs

-- ---- the line

-- The line of a record: `:` and digits, with no byte that would end it.
module _ (bs : List ℕ) where
  pub line_no_lf : NoLF (record_line bs)
  unfolding NoLF record_line
  line_no_lf = ((λ q. omega arith), digits_no_lf 16 (byte_pairs (bs ++ (checksum bs ∷ []))) (omega arith) (pairs_digits (bs ++ (checksum bs ∷ []))))

  line_colon : get_or (record_line bs) 0 0 ≡ code ":"
  unfolding record_line
  line_colon = refl

  line-digits : all_digits 16 (drop 1 (record_line bs)) ≡ true
  unfolding record_line
  line-digits = pairs_digits (bs ++ (checksum bs ∷ []))

  length-all : length (byte_pairs (bs ++ (checksum bs ∷ []))) ≡ 2 * length bs + 2
  length-all = length_pairs (bs ++ (checksum bs ∷ [])) ∙ rw (length-append bs (checksum bs ∷ [])) (omega arith)

  pub length-line : length (record_line bs) ≡ 2 * length bs + 3
  unfolding record_line
  length-line = rw length-all (omega arith)

  pub line_no_cr : without_cr (record_line bs) ≡ record_line bs
  unfolding record_line
  line_no_cr = no_cr (code ":") (byte_pairs (bs ++ (checksum bs ∷ []))) line-digits (rw length-all (omega arith))

-- ---- its bytes

pub sum_zero : (bs : List ℕ) → total (bs ++ (checksum bs ∷ [])) % 256 ≡ 0
unfolding total
sum_zero bs = rw (total-append bs (checksum bs ∷ [])) (omega arith)

-- The bytes of a line are those that it was made of, and their checksum.
module _ (bs : List ℕ) (small : Below 256 bs) where
  below_one : Below 256 (checksum bs ∷ [])
  below_one zero = mod-lt (256 - total bs % 256) (omega arith)
  below_one (suc n) = omega arith

  line-bytes : line_bytes (record_line bs) ≡ bs ++ (checksum bs ∷ [])
  unfolding record_line
  line-bytes = pairs_back (bs ++ (checksum bs ∷ [])) (below_append 256 bs (checksum bs ∷ []) small below_one)

-- What the bytes of a data record say.
module _ (at : ℕ) (bs : List ℕ) (high : at < 65536) (few : length bs < 256) (small : Below 256 bs) where
  below_record : Below 256 (data_record at bs)
  below_record zero = few
  below_record (suc zero) = omega arith
  below_record (suc (suc zero)) = omega arith
  below_record (suc (suc (suc zero))) = omega arith
  below_record (suc (suc (suc (suc n)))) = small n

  data_bytes_lem : line_bytes (record_line (data_record at bs)) ≡ data_record at bs ++ (checksum (data_record at bs) ∷ [])
  data_bytes_lem = line-bytes (data_record at bs) below_record

  pub data_count_lem : data_count (line_bytes (record_line (data_record at bs))) ≡ length bs
  data_count_lem = rw data_bytes_lem

  pub data_address : address (line_bytes (record_line (data_record at bs))) ≡ at
  data_address = rw data_bytes_lem (omega arith)

  pub data_kind : kind (line_bytes (record_line (data_record at bs))) ≡ 0
  data_kind = rw data_bytes_lem

  pub data_data : data_bytes (line_bytes (record_line (data_record at bs))) ≡ bs
  data_data = rw data_bytes_lem (take-append_seam bs (checksum (data_record at bs) ∷ []))

  pub data_record_lem : is_record (record_line (data_record at bs)) ≡ true
  unfolding is_record
  data_record_lem =
      let long : length (record_line (data_record at bs)) ≡ 2 * length bs + 11 = length-line (data_record at bs) ∙ omega arith in
      rw (data_count_lem, eq-eqb _ _ long, line_colon (data_record at bs), line-digits (data_record at bs), data_bytes_lem, sum_zero (data_record at bs))
