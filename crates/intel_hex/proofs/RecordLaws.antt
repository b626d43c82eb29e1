-- Laws of one record: what its bytes say, and the line on which it stands. Assumes nothing.
use Rattle.std.specs.Prelude.{Option, Some, None}
use Prim.Native.Nat.{ℕ, suc, ◌+◌, ◌-◌, ◌*◌, ◌%◌, ◌≤◌, ◌<◌}
use Prim.Native.Char.{code}
use mathlib.Core.Path.{◌≡◌, refl, sym, ◌∙◌, ap}
use mathlib.Core.Bool.{Bool, true, false, cond, ◌&&◌, true≢false, and-true}
use mathlib.Core.Logic.{◌⊎◌, inl, inr}
use mathlib.Core.List.{List, [], ◌∷◌, ◌++◌}
use native.Mathlib.Omega.{arith}
use native.Mathlib.Numerals.{add-one}
use lib.ListN.{length, get_or, take, drop, length-drop}
use lib.Seq.{length-take-le, get_or-take, take-take, take-add, take-suc, drop_at, drop-drop, take_at}
use lib.Dec.{eqb, ltb}
use borrow.Author.Tests.{lt-ltb, eq-eqb, ne_eqb, eqb-true}
use Rattle.text.specs.Numerals.{digit_value, all_digits}
use Rattle.text.specs.Lines.{first_line, ends_line}
use Rattle.text.proofs.Truth.{and_left, and_right}
use Rattle.text.proofs.DigitLaws.{all_append, digit_of_lem}
use Rattle.text.proofs.LineLaws.{NoLF, no_lf_append, goes_on, digits_no_lf, first_le, first-front, first_ends, first-is}
use Rattle.intel_hex.specs.Record.{pair_values, total, line_bytes, data_count, address, kind, data_bytes, has_form, has_digits, has_checksum, is_record}
use Rattle.intel_hex.specs.Reading.{CR, without_cr}
use Rattle.intel_hex.specs.Steps.{is_pair, pair_value, is_head, first_record, record_end}
use Rattle.intel_hex.proofs.PairLaws.{two_first, digits-first, values_first, values_append, length_values, total-append}

-- ---- what a record has

module _ (l : List ℕ) (good : is_record l ≡ true) where
  parts : (has_form l ≡ true) × (has_digits l ≡ true) × (has_checksum l ≡ true)
  unfolding is_record
  parts =
      let rest = and_right (has_form l) (has_digits l && has_checksum l) good in
      (and_left (has_form l) (has_digits l && has_checksum l) good, and_left (has_digits l) (has_checksum l) rest, and_right (has_digits l) (has_checksum l) rest)

  pub form_of : has_form l ≡ true
  form_of = parts.0

  pub record_colon : get_or l 0 0 ≡ code ":"
  record_colon = eqb-true _ _ (and_left (eqb (get_or l 0 0) (code ":")) _ parts.0)

  pub record_length : length l ≡ 2 * data_count (line_bytes l) + 11
  record_length = eqb-true _ _ (and_right (eqb (get_or l 0 0) (code ":")) _ parts.0)

  pub record_digits : all_digits 16 (drop 1 l) ≡ true
  record_digits = parts.1

-- ---- its first bytes

-- The four bytes before the data are the first four pairs.
pub head_bytes : (s : List ℕ) → 9 ≤ length s → line_bytes s ≡ pair_value s 1 ∷ pair_value s 3 ∷ pair_value s 5 ∷ pair_value s 7 ∷ pair_values (drop 9 s)
head_bytes s h =
    values_first s 1 (omega arith)
    ∙ rw (values_first s 3 (omega arith), values_first s 5 (omega arith), values_first s 7 (omega arith))

-- They are those of every line that begins so.
module _ (s : List ℕ) (n : ℕ) (h : 9 ≤ n) (fits : n ≤ length s) where
  same-pair : (i : ℕ) → i + 1 < n → pair_value (take n s) i ≡ pair_value s i
  same-pair i k = rw (get_or-take n s i 0 (omega arith), get_or-take n s (i + 1) 0 k)

  pub front_bytes : line_bytes (take n s) ≡ pair_value s 1 ∷ pair_value s 3 ∷ pair_value s 5 ∷ pair_value s 7 ∷ pair_values (drop 9 (take n s))
  front_bytes =
      head_bytes (take n s) (rw (length-take-le n s fits) h)
      ∙ rw (same-pair 1 (omega arith), same-pair 3 (omega arith), same-pair 5 (omega arith), same-pair 7 (omega arith))

  pub same_count : data_count (line_bytes (take n s)) ≡ data_count (line_bytes s)
  same_count = rw (front_bytes, head_bytes s (omega arith))

  pub same_address : address (line_bytes (take n s)) ≡ pair_value s 3 * 256 + pair_value s 5
  same_address = rw front_bytes

  pub same_kind : kind (line_bytes (take n s)) ≡ pair_value s 7
  same_kind = rw front_bytes

  front-digits : all_digits 16 (drop 1 (take n s)) ≡ (is_pair s 1 && (is_pair s 3 && (is_pair s 5 && (is_pair s 7 && all_digits 16 (drop 9 (take n s))))))
  front-digits =
      let size = length-take-le n s fits in
      digits-first (take n s) 1 (omega arith)
      ∙ rw (
        digits-first (take n s) 3 (omega arith),
        digits-first (take n s) 5 (omega arith),
        digits-first (take n s) 7 (omega arith),
        get_or-take n s 1 0 (omega arith),
        get_or-take n s 2 0 (omega arith),
        get_or-take n s 3 0 (omega arith),
        get_or-take n s 4 0 (omega arith),
        get_or-take n s 5 0 (omega arith),
        get_or-take n s 6 0 (omega arith),
        get_or-take n s 7 0 (omega arith),
        get_or-take n s 8 0 (omega arith),
      )

-- ---- the front that is as long as its count says

-- The place where the record at the front of a text ends, by its count.
abbrev pub record_stop : List ℕ → ℕ
record_stop s = 2 * data_count (line_bytes s) + 11

-- A front that ends at n: the digits of its data, and the pair of its checksum.
module _ (s : List ℕ) (n : ℕ) (count : n ≡ record_stop s) (fits : n ≤ length s) where
  abbrev pub data_digits : List ℕ
  data_digits = take (n - 2 - 9) (drop 9 s)

  pub length_data : length data_digits ≡ 2 * data_count (line_bytes s)
  length_data = length-take-le (n - 2 - 9) (drop 9 s) (rw length-drop (omega arith)) ∙ omega arith

  tail_is : drop 9 (take n s) ≡ data_digits ++ (get_or s (n - 2) 0 ∷ get_or s (n - 2 + 1) 0 ∷ [])
  tail_is =
      let whole : n ≡ 9 + (n - 2 - 9 + 2) = omega arith in
      let rest : 9 + (n - 2 - 9) ≡ n - 2 = omega arith in
      ap (λ (k : ℕ). drop 9 (take k s)) whole
      ∙ rw (take-add 9 (n - 2 - 9 + 2) s, drop_at (take 9 s) (take (n - 2 - 9 + 2) (drop 9 s)) 9 (length-take-le 9 s (omega arith)), take-add (n - 2 - 9) 2 (drop 9 s), drop-drop, rest, two_first s (n - 2) (omega arith))

  tail_digits : all_digits 16 (drop 9 (take n s)) ≡ (all_digits 16 data_digits && is_pair s (n - 2))
  unfolding all_digits
  tail_digits = ap (all_digits 16) tail_is ∙ all_append 16 data_digits (get_or s (n - 2) 0 ∷ get_or s (n - 2 + 1) 0 ∷ []) ∙ rw and-true

  tail_values : pair_values (drop 9 (take n s)) ≡ pair_values data_digits ++ (pair_value s (n - 2) ∷ [])
  unfolding pair_values
  tail_values = ap pair_values tail_is ∙ values_append (data_count (line_bytes s)) data_digits (get_or s (n - 2) 0 ∷ get_or s (n - 2 + 1) 0 ∷ []) length_data

  pub front_data : data_bytes (line_bytes (take n s)) ≡ pair_values data_digits
  front_data =
      let size : length (pair_values data_digits) ≡ data_count (line_bytes s) = length_values (data_count (line_bytes s)) data_digits length_data in
      let nine : 9 ≤ n = omega arith in
      let same : pair_value s 1 ≡ data_count (line_bytes s) = rw (head_bytes s (omega arith)) in
      rw (front_bytes s n nine fits, tail_values, same) (take_at (pair_values data_digits) (pair_value s (n - 2) ∷ []) (data_count (line_bytes s)) size)

  front-total : total (line_bytes (take n s)) ≡ pair_value s 1 + pair_value s 3 + pair_value s 5 + pair_value s 7 + total (pair_values data_digits) + pair_value s (n - 2)
  unfolding total
  front-total =
      let nine : 9 ≤ n = omega arith in
      let last = total-append (pair_values data_digits) (pair_value s (n - 2) ∷ []) in
      rw (front_bytes s n nine fits, tail_values, last) (omega arith)

  front-form : has_form (take n s) ≡ eqb (get_or s 0 0) (code ":")
  front-form =
      let nine : 9 ≤ n = omega arith in
      rw (get_or-take n s 0 0 (omega arith), length-take-le n s fits, same_count s n nine fits, eq-eqb n (record_stop s) count, and-true)

  -- Where the pairs before the data are right, the rest decides.
  pub front_record : is_head s ≡ true
      → is_record (take n s) ≡ (all_digits 16 data_digits && is_pair s (n - 2)
      && eqb ((pair_value s 1 + pair_value s 3 + pair_value s 5 + pair_value s 7 + total (pair_values data_digits) + pair_value s (n - 2)) % 256) 0)
  unfolding is_record
  front_record head =
      let nine : 9 ≤ n = omega arith in
      rw (front-form, front-digits s n nine fits, tail_digits, front-total)
      (go (eqb (get_or s 0 0) (code ":")) (is_pair s 1) (is_pair s 3) (is_pair s 5) (is_pair s 7) _ _ head)
    where
      go : (a b c d e x y : Bool) → (a && b && c && d && e) ≡ true → (a && ((b && (c && (d && (e && x)))) && y)) ≡ (x && y)
      go true true true true true x y h = refl
      go true true true true false x y h = absurd (true≢false (sym h))
      go true true true false e x y h = absurd (true≢false (sym h))
      go true true false d e x y h = absurd (true≢false (sym h))
      go true false c d e x y h = absurd (true≢false (sym h))
      go false b c d e x y h = absurd (true≢false (sym h))

  -- Of a record they are.
  pub record_head : is_record (take n s) ≡ true → is_head s ≡ true
  record_head good =
      let nine : 9 ≤ n = omega arith in
      let colon : eqb (get_or s 0 0) (code ":") ≡ true = sym front-form ∙ form_of (take n s) good in
      go (eqb (get_or s 0 0) (code ":")) (is_pair s 1) (is_pair s 3) (is_pair s 5) (is_pair s 7) _ colon (sym (front-digits s n nine fits) ∙ record_digits (take n s) good)
    where
      go : (a b c d e x : Bool) → a ≡ true → (b && (c && (d && (e && x)))) ≡ true → (a && b && c && d && e) ≡ true
      go true true true true true x h k = refl
      go true true true true false x h k = absurd (true≢false (sym k))
      go true true true false e x h k = absurd (true≢false (sym k))
      go true true false d e x h k = absurd (true≢false (sym k))
      go true false c d e x h k = absurd (true≢false (sym k))
      go false b c d e x h k = absurd (true≢false (sym h))

-- ---- no LF and no CR in a record

record_no_lf : (l : List ℕ) → is_record l ≡ true → NoLF l
unfolding NoLF
record_no_lf [] good = tt
record_no_lf (c ∷ l) good = (λ e. let colon = record_colon (c ∷ l) good in omega arith, digits_no_lf 16 l (omega arith) (record_digits (c ∷ l) good))

-- A line that ends in a digit has no CR to lose.
pub no_cr : (c : ℕ) (s : List ℕ) → all_digits 16 s ≡ true → 0 < length s → without_cr (c ∷ s) ≡ c ∷ s
unfolding without_cr
no_cr c [] e h = absurd (omega arith)
no_cr c (d ∷ s) e h =
    let last = digit_of_lem 16 (d ∷ s) (length s) e (omega arith) in
    let size : length (c ∷ d ∷ s) - 1 ≡ suc (length s) = omega arith in
    rw (size, ne_eqb (get_or (d ∷ s) (length s) 0) CR (λ q. let none : digit_value (get_or (d ∷ s) (length s) 0) ≡ 16 = ap digit_value q in omega arith))

pub record_no_cr : (l : List ℕ) → is_record l ≡ true → without_cr l ≡ l
unfolding without_cr
record_no_cr [] good = refl
record_no_cr (c ∷ l) good = no_cr c l (record_digits (c ∷ l) good) (let size = record_length (c ∷ l) good in omega arith)

-- ---- the first line of a text, without its CR

has_bytes_lem : (l : List ℕ) → get_or l (length l - 1) 0 ≡ CR → 0 < length l
has_bytes_lem [] e = absurd (omega arith)
has_bytes_lem (c ∷ l) e = omega arith

-- It is the line, or the line has a CR at its end and is one byte longer.
module _ (s : List ℕ) where
  abbrev line_length : ℕ
  line_length = length (first_line s)

  cr_cases : (first_record s ≡ take line_length s) ⊎ ((0 < line_length) × (get_or s (line_length - 1) 0 ≡ CR) × (first_record s ≡ take (line_length - 1) s))
  unfolding without_cr
  cr_cases = go (eqb (get_or (first_line s) (line_length - 1) 0) CR) refl
    where
      go : (t : Bool) → eqb (get_or (first_line s) (line_length - 1) 0) CR ≡ t
          → (cond t (take (line_length - 1) (first_line s)) (first_line s) ≡ take line_length s)
          ⊎ ((0 < line_length) × (get_or s (line_length - 1) 0 ≡ CR) × (cond t (take (line_length - 1) (first_line s)) (first_line s) ≡ take (line_length - 1) s))
      go false e = inl (sym (first-front s))
      go true e =
          let some = has_bytes_lem (first_line s) (eqb-true _ _ e) in
          let here : get_or s (line_length - 1) 0 ≡ CR = sym (get_or-take line_length s (line_length - 1) 0 (omega arith)) ∙ rw (first-front s) (eqb-true _ _ e) in
          inr (some, here, ap (take (line_length - 1)) (sym (first-front s)) ∙ take-take (line_length - 1) line_length s (omega arith))

-- Where a record stands on the first line, it is as long as its count says, and its line ends right after it.
module _ (s : List ℕ) (good : is_record (first_record s) ≡ true) where
  pub record Stands : Type 0 where
    pub fits : record_stop s ≤ length s
    pub is_front : first_record s ≡ take (record_stop s) s
    pub ends : record_end s (record_stop s) ≡ Some (length (first_line s))

  -- Of any front that it is.
  stop_is : (n : ℕ) → n ≤ length s → first_record s ≡ take n s → n ≡ record_stop s
  stop_is n fits e =
      let size : length (first_record s) ≡ n = ap length e ∙ length-take-le n s fits in
      let long = record_length (first_record s) good in
      let count = ap (λ (l : List ℕ). data_count (line_bytes l)) e ∙ same_count s n (omega arith) fits in
      omega arith

  pub stands : Stands
  stands = go (cr_cases s)
    where
      go : (first_record s ≡ take (line_length s) s) ⊎ ((0 < line_length s) × (get_or s (line_length s - 1) 0 ≡ CR) × (first_record s ≡ take (line_length s - 1) s)) → Stands
      go (inl e) =
          let fits = first_le s in
          let n = stop_is (line_length s) fits e in
          let end : ends_line s (record_stop s) ≡ true = rw (← n) (first_ends s) in
          record { fits = rw (← n) fits; is_front = rw (← n) e; ends = rw end (ap Some (sym n)) }
      go (inr e) =
          let fits = first_le s in
          let n = stop_is (line_length s - 1) (omega arith) e.2 in
          let next : record_stop s + 1 ≡ line_length s = (let some = e.0 in omega arith) in
          let cr : get_or s (record_stop s) 0 ≡ CR = rw (← n) e.1 in
          let inside : ltb (record_stop s) (length s) ≡ true = lt-ltb (record_stop s) (length s) (omega arith) in
          let after : ends_line s (record_stop s + 1) ≡ true = rw next (first_ends s) in
          record { fits = omega arith; is_front = rw (← n) e.2; ends = rw (inside, cr, after) (ap Some next) }

-- The other way round: a front that is a record, where its line ends right after it, stands on the first line.
module _ (s : List ℕ) (n : ℕ) (fits : n ≤ length s) (good : is_record (take n s) ≡ true) where
  abbrev OnLine : Type 0
  OnLine = (first_record s ≡ take n s) × (record_end s n ≡ Some (length (first_line s)))

  at_once : ends_line s n ≡ true → OnLine
  at_once end =
      let line = first-is n s fits (record_no_lf (take n s) good) end in
      (ap without_cr line ∙ record_no_cr (take n s) good, rw (end, line) (ap Some (sym (length-take-le n s fits))))

  after_cr : ends_line s n ≡ false → get_or s n 0 ≡ CR → ends_line s (n + 1) ≡ true → OnLine
  unfolding NoLF without_cr
  after_cr more cr end =
      let inside = goes_on s n more in
      let whole : take (n + 1) s ≡ take n s ++ (CR ∷ []) = rw (add-one n, take-suc s n 0 inside, cr) in
      let line = first-is (n + 1) s (omega arith) (rw whole (no_lf_append (take n s) (CR ∷ []) (record_no_lf (take n s) good) ((λ e. omega arith), tt))) end in
      let size : length (take (n + 1) s) ≡ n + 1 = length-take-le (n + 1) s (omega arith) in
      let last : n + 1 - 1 ≡ n = omega arith in
      let here : get_or (take (n + 1) s) n 0 ≡ CR = get_or-take (n + 1) s n 0 (omega arith) ∙ cr in
      (ap without_cr line ∙ rw (size, last, here, take-take n (n + 1) s (omega arith)), rw (more, cr, end, line) (ap Some (sym size)))

  pub on_line : (record_end s n ≡ None → ⊥) → OnLine
  on_line some = go (ends_line s n) refl (eqb (get_or s n 0) CR) refl (ends_line s (n + 1)) refl some
    where
      go : (t : Bool) → ends_line s n ≡ t → (u : Bool) → eqb (get_or s n 0) CR ≡ u → (v : Bool) → ends_line s (n + 1) ≡ v
          → (◌≡◌ {A = Option ℕ} (cond t (Some n) (cond (u && v) (Some (n + 1)) None)) None → ⊥) → OnLine
      go true e u f v g some = at_once e
      go false e true f true g some = after_cr e (eqb-true _ _ f) g
      go false e true f false g some = absurd (some refl)
      go false e false f v g some = absurd (some refl)
