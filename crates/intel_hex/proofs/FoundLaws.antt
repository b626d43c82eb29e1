-- What the code finds on the first line of a text. Assumes nothing.
use Rattle.std.specs.Prelude.{Some, None, is_some}
use Prim.Native.Nat.{ℕ, ◌+◌, ◌-◌, ◌*◌, ◌%◌, ◌≤◌, ◌<◌}
use mathlib.Core.Path.{◌≡◌, refl, sym, ◌∙◌, ap}
use mathlib.Core.Bool.{Bool, true, false, ◌&&◌, false≢true}
use mathlib.Core.List.{List, map}
use native.Mathlib.Omega.{arith}
use lib.ListN.{length, get_or, take}
use lib.Dec.{eqb, ltb}
use borrow.Author.Tests.{ltb-true}
use Rattle.text.specs.Numerals.{digit_value, all_digits}
use Rattle.text.specs.Lines.{first_line}
use Rattle.text.specs.Place.{put}
use Rattle.text.proofs.Truth.{and_left, and_right, both_ways}
use Rattle.text.proofs.PutLaws.{length-put}
use Rattle.text.proofs.RangeLaws.{below_mod}
use Rattle.intel_hex.specs.declared.record.Found.{Found}
use Rattle.intel_hex.specs.declared.record.Head.{Head}
use Rattle.intel_hex.specs.Record.{pair_values, total, line_bytes, data_count, is_record}
use Rattle.intel_hex.specs.Steps.{is_pair, pair_value, is_head, kind_of, HeadRead, first_record, record_end, RecordFound}
use Rattle.intel_hex.proofs.PairLaws.{values_below}
use Rattle.intel_hex.proofs.RecordLaws.{head_bytes, record_stop, data_digits, front_record, front_data, record_head, same_count, same_address, same_kind, stands, on_line}

-- ---- the pairs before the data

pub pair_lt : (s : List ℕ) (i : ℕ) → is_pair s i ≡ true → pair_value s i < 256
pair_lt s i e =
    let high = ltb-true (digit_value (get_or s i 0)) 16 (and_left (ltb (digit_value (get_or s i 0)) 16) _ e) in
    let low = ltb-true (digit_value (get_or s (i + 1) 0)) 16 (and_right (ltb (digit_value (get_or s i 0)) 16) _ e) in
    omega arith

pub head_lt : (s : List ℕ) → is_head s ≡ true → (pair_value s 1 < 256) × (pair_value s 3 < 256) × (pair_value s 5 < 256) × (pair_value s 7 < 256)
head_lt s e =
    let four = and_left (eqb (get_or s 0 0) _ && is_pair s 1 && is_pair s 3 && is_pair s 5) (is_pair s 7) e in
    let three = and_left (eqb (get_or s 0 0) _ && is_pair s 1 && is_pair s 3) (is_pair s 5) four in
    let two = and_left (eqb (get_or s 0 0) _ && is_pair s 1) (is_pair s 3) three in (
      pair_lt s 1 (and_right (eqb (get_or s 0 0) _) (is_pair s 1) two),
      pair_lt s 3 (and_right (eqb (get_or s 0 0) _ && is_pair s 1) (is_pair s 3) three),
      pair_lt s 5 (and_right (eqb (get_or s 0 0) _ && is_pair s 1 && is_pair s 3) (is_pair s 5) four),
      pair_lt s 7 (and_right (eqb (get_or s 0 0) _ && is_pair s 1 && is_pair s 3 && is_pair s 5) (is_pair s 7) e),
    )

module _ (s : List ℕ) (h : Head) (p : HeadRead s (Some h)) where
  pub head_good : is_head s ≡ true
  head_good = sym p.form

  pub head_small : (h.count < 256) × (h.address < 65536) × (h.sum < 1024)
  head_small =
      let small = head_lt s head_good in
      (rw p.says.count-is small.0, rw p.says.address_is (omega arith), rw p.says.sum_is (omega arith))

  pub head_stop : 11 ≤ length s → 2 * h.count + 11 ≡ record_stop s
  head_stop long = rw (p.says.count-is, head_bytes s (omega arith))

-- ---- no record

module _ (s : List ℕ) where
  abbrev NoRecord : Type 0
  NoRecord = is_record (first_record s) ≡ true → ⊥

  pub too_short : length s < 11 → NoRecord
  too_short h good = let fits = (stands s good).fits in omega arith

  pub no_head : is_head s ≡ false → NoRecord
  no_head e good =
      let st = stands s good in
      let front : is_record (take (record_stop s) s) ≡ true = rw (← st.is_front) good in
      false≢true (sym e ∙ record_head s (record_stop s) refl st.fits front)

  pub cut_off : (count : ℕ) → 11 ≤ length s → count ≡ pair_value s 1 → length s < 2 * count + 11 → NoRecord
  cut_off count h e cut good =
      let fits = (stands s good).fits in
      let same : data_count (line_bytes s) ≡ pair_value s 1 = rw (head_bytes s (omega arith)) in
      omega arith

  pub nothing_there : (before after : List ℕ) → length after ≡ length before → NoRecord → RecordFound s before None after
  nothing_there before after size none = record { same_length = size; record_is = is_false (is_record (first_record s)) none; says = tt }
    where
      is_false : (b : Bool) → (b ≡ true → ⊥) → false ≡ b
      is_false true h = absurd (h refl)
      is_false false h = refl

-- ---- a record, or not

-- The pairs before the data are right, and the record ends at n.
module _ (s : List ℕ) (n : ℕ) (count : n ≡ record_stop s) (fits : n ≤ length s) (head : is_head s ≡ true) where
  abbrev digits : List ℕ
  digits = data_digits s n count fits

  abbrev all-bytes : ℕ
  all-bytes = pair_value s 1 + pair_value s 3 + pair_value s 5 + pair_value s 7 + total (pair_values digits) + pair_value s (n - 2)

  abbrev front : Bool
  front = all_digits 16 digits && is_pair s (n - 2) && eqb (all-bytes % 256) 0

  -- Where a record stands on the first line, it is this front.
  on_front : is_record (first_record s) ≡ true → (first_record s ≡ take n s) × (record_end s n ≡ Some (length (first_line s)))
  on_front good = let st = stands s good in (rw count st.is_front, rw count st.ends)

  pub found_is : (front && is_some (record_end s n)) ≡ is_record (first_record s)
  found_is = both_ways _ _ there back
    where
      there : (front && is_some (record_end s n)) ≡ true → is_record (first_record s) ≡ true
      there e =
          let good = front_record s n count fits head ∙ and_left front (is_some (record_end s n)) e in
          let line = on_line s n fits good (λ none. false≢true (sym (ap is_some none) ∙ and_right front (is_some (record_end s n)) e)) in
          rw line.0 good

      back : is_record (first_record s) ≡ true → (front && is_some (record_end s n)) ≡ true
      back good =
          let line = on_front good in
          let here : front ≡ true = sym (front_record s n count fits head) ∙ rw (← line.0) good in
          rw (here, line.1)

  -- No record stands there where the front is none, ..
  pub not_front : front ≡ false → NoRecord s
  not_front e good = let both : (front && is_some (record_end s n)) ≡ true = found_is ∙ good in false≢true (sym e ∙ and_left front (is_some (record_end s n)) both)

  -- .. or where its line goes on.
  pub no_end : record_end s n ≡ None → NoRecord s
  no_end e good =
      let both : (front && is_some (record_end s n)) ≡ true = found_is ∙ good in
      false≢true (sym (ap is_some e) ∙ and_right front (is_some (record_end s n)) both)

  -- Else one does.
  pub found_there : (before after : List ℕ) (f : Found) → front ≡ true → record_end s n ≡ Some f.end
      → f.count ≡ pair_value s 1 → f.address ≡ pair_value s 3 * 256 + pair_value s 5 → f.kind ≡ kind_of (pair_value s 7)
      → after ≡ put before f.address (map (λ b. b % 256) (pair_values digits))
      → RecordFound s before (Some f) after
  found_there before after f good end ec ea ek eafter =
      let nine : 9 ≤ n = omega arith in
      let test : true ≡ is_record (first_record s) = sym (rw (good, end)) ∙ found_is in
      let line = on_front (sym test) in
      let small = head_lt s head in
      let all = and_left (all_digits 16 digits) (is_pair s (n - 2)) (and_left (all_digits 16 digits && is_pair s (n - 2)) (eqb (all-bytes % 256) 0) good) in
      record {
        same_length = ap length eafter ∙ length-put before f.address (map (λ b. b % 256) (pair_values digits));
        record_is = test;
        says = record {
          within = omega arith;
          line-end = some_same (sym end ∙ line.1);
          count-is = ec ∙ rw (line.0, same_count s n nine fits, head_bytes s (omega arith));
          address_is = ea ∙ rw (line.0, same_address s n nine fits);
          kind-is = ek ∙ rw (line.0, same_kind s n nine fits);
          bytes = eafter ∙ rw (line.0, same_address s n nine fits, front_data s n count fits, ea, below_mod 256 (pair_values digits) (values_below digits all));
        };
      }
    where
      some_same : {a b : ℕ} → Some a ≡ Some b → a ≡ b
      some_same e = cc
