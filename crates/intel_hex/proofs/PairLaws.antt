-- Laws of pairs of digits and of the bytes that they stand for. Assumes nothing.
use Prim.Native.Nat.{ℕ, zero, suc, ◌+◌, ◌-◌, ◌*◌, ◌%◌, ◌≤◌, ◌<◌}
use Prim.Native.Char.{Char, code}
use mathlib.Core.Path.{◌≡◌, refl, sym, ◌∙◌, ap}
use mathlib.Core.Bool.{Bool, true, false, cond, ◌&&◌, and_assoc, and-true}
use mathlib.Core.List.{List, [], ◌∷◌, ◌++◌, map}
use native.Mathlib.Nat.{add-zero}
use native.Mathlib.Omega.{arith}
use native.Mathlib.Numerals.{add-one}
use lib.ListN.{length, get_or, take, drop, set, drop_of_length-le}
use lib.Seq.{drop-cons, get_or-take, get_or-drop}
use lib.Dec.{leb, ltb}
use borrow.Author.Tests.{leb-true, ltb-true}
use Rattle.text.specs.Numerals.{digit_value, is_between, all_digits}
use Rattle.text.specs.Place.{put}
use Rattle.text.specs.Ranges.{Below}
use Rattle.text.proofs.Truth.{and_left, and_right}
use Rattle.text.proofs.PutLaws.{put_nil, put_one, put-append}
use Rattle.intel_hex.specs.Record.{pair_values, total}
use Rattle.intel_hex.specs.Steps.{is_pair, pair_value}

-- ---- one digit

-- A byte is worth 15 at most as a digit, and 16 where it is none.
pub value_le : (c : ℕ) → digit_value c ≤ 16
value_le c = one (is_between "0" "9" c) refl
  where
    under : (first last : Char) → is_between first last c ≡ true → c ≤ code last
    under first last e = leb-true _ _ (and_right (leb (code first) c) (leb c (code last)) e)

    three : (t : Bool) → is_between "a" "f" c ≡ t → cond t (10 + (c - code "a")) 16 ≤ 16
    three true e = let h = under "a" "f" e in omega arith
    three false e = omega arith

    two : (t : Bool) → is_between "A" "F" c ≡ t → cond t (10 + (c - code "A")) (cond (is_between "a" "f" c) (10 + (c - code "a")) 16) ≤ 16
    two true e = let h = under "A" "F" e in omega arith
    two false e = three (is_between "a" "f" c) refl

    one : (t : Bool) → is_between "0" "9" c ≡ t
        → cond t (c - code "0") (cond (is_between "A" "F" c) (10 + (c - code "A")) (cond (is_between "a" "f" c) (10 + (c - code "a")) 16)) ≤ 16
    one true e = let h = under "0" "9" e in omega arith
    one false e = two (is_between "A" "F" c) refl

-- ---- a pair

-- The pair at the front of what is left of a text.
pub two_first : (s : List ℕ) (i : ℕ) → i + 2 ≤ length s → drop i s ≡ get_or s i 0 ∷ get_or s (i + 1) 0 ∷ drop (i + 2) s
two_first s i h =
    let next : i + 2 ≡ suc (suc i) = omega arith in
    drop-cons s i 0 (omega arith) ∙ rw (next, add-one i, drop-cons s (suc i) 0 (omega arith))

module _ (s : List ℕ) (i : ℕ) (h : i + 2 ≤ length s) where
  pub digits-first : all_digits 16 (drop i s) ≡ (is_pair s i && all_digits 16 (drop (i + 2) s))
  unfolding all_digits
  digits-first = rw (two_first s i h) (sym (and_assoc (ltb (digit_value (get_or s i 0)) 16) _ _))

  pub values_first : pair_values (drop i s) ≡ pair_value s i ∷ pair_values (drop (i + 2) s)
  unfolding pair_values
  values_first = rw (two_first s i h)

-- A pair that is lent.
pub pair-part : (s x : List ℕ) (i : ℕ) → x ≡ take 2 (drop i s) → (is_pair x 0 ≡ is_pair s i) × (pair_value x 0 ≡ pair_value s i)
pair-part s x i e =
    let first : get_or x 0 0 ≡ get_or s i 0 = rw (e, get_or-take 2 (drop i s) 0 0 (omega arith), get_or-drop i s 0 0, add-zero) in
    let second : get_or x 1 0 ≡ get_or s (i + 1) 0 = rw (e, get_or-take 2 (drop i s) 1 0 (omega arith), get_or-drop i s 1 0) in
    (rw (first, second), rw (first, second))

-- ---- pair after pair

abbrev low_bits : List ℕ → List ℕ
low_bits bs = map (λ b. b % 256) bs

module _ (s : List ℕ) (k : ℕ) (h : 2 * k + 2 ≤ length s) where
  twice : 2 * (k + 1) ≡ 2 * k + 2
  twice = omega arith

  pub good_turn : (good pair : Bool) → pair ≡ is_pair s (2 * k) → (good && pair && all_digits 16 (drop (2 * (k + 1)) s)) ≡ (good && all_digits 16 (drop (2 * k) s))
  good_turn good pair e = rw (twice, digits-first s (2 * k) h, ← e) (and_assoc good pair _)

  pub sum_turn : (sum v : ℕ) → v ≡ pair_value s (2 * k) → sum + v + total (pair_values (drop (2 * (k + 1)) s)) ≡ sum + total (pair_values (drop (2 * k) s))
  unfolding total
  sum_turn sum v e = rw (twice, values_first s (2 * k) h, e) (omega arith)

  pub bytes_turn : (bytes : List ℕ) (at v : ℕ) → v ≡ pair_value s (2 * k)
      → put (set bytes (at + k) (v % 256)) (at + (k + 1)) (low_bits (pair_values (drop (2 * (k + 1)) s))) ≡ put bytes (at + k) (low_bits (pair_values (drop (2 * k) s)))
  bytes_turn bytes at v e =
      let next : at + (k + 1) ≡ at + k + 1 = omega arith in
      rw (twice, next, values_first s (2 * k) h, ← e, ← put_one bytes (at + k) (v % 256))
      (sym (put-append bytes (at + k) (v % 256 ∷ []) (low_bits (pair_values (drop (2 * k + 2) s)))))

module _ (s : List ℕ) (k : ℕ) (h : length s ≤ 2 * k) where
  pub good-end : (good : Bool) → good ≡ (good && all_digits 16 (drop (2 * k) s))
  unfolding all_digits
  good-end good = rw (drop_of_length-le s h) (sym (and-true good))

  pub sum_end : (sum : ℕ) → sum ≡ sum + total (pair_values (drop (2 * k) s))
  unfolding total pair_values
  sum_end sum = rw (drop_of_length-le s h) (omega arith)

  pub bytes-end : (bytes : List ℕ) (at : ℕ) → bytes ≡ put bytes at (low_bits (pair_values (drop (2 * k) s)))
  unfolding pair_values
  bytes-end bytes at = rw (drop_of_length-le s h, put_nil)

-- ---- bytes side by side

pub values_append : (n : ℕ) (a b : List ℕ) → length a ≡ 2 * n → pair_values (a ++ b) ≡ pair_values a ++ pair_values b
unfolding pair_values
values_append n [] b h = refl
values_append n (c ∷ []) b h = absurd (omega arith)
values_append zero (c ∷ d ∷ a) b h = absurd (omega arith)
values_append (suc n) (c ∷ d ∷ a) b h = rw (values_append n a b (omega arith))

pub length_values : (n : ℕ) (s : List ℕ) → length s ≡ 2 * n → length (pair_values s) ≡ n
unfolding pair_values
length_values n [] h = omega arith
length_values n (c ∷ []) h = absurd (omega arith)
length_values zero (c ∷ d ∷ s) h = absurd (omega arith)
length_values (suc n) (c ∷ d ∷ s) h = ap suc (length_values n s (omega arith))

pub total-append : (xs ys : List ℕ) → total (xs ++ ys) ≡ total xs + total ys
unfolding total
total-append [] ys = omega arith
total-append (x ∷ xs) ys = let rest = total-append xs ys in omega arith

-- Digits stand for bytes.
pub values_below : (s : List ℕ) → all_digits 16 s ≡ true → Below 256 (pair_values s)
unfolding all_digits pair_values
values_below [] e i = omega arith
values_below (c ∷ []) e i = omega arith
values_below (c ∷ d ∷ s) e i =
    let tail = and_right (ltb (digit_value c) 16) (all_digits 16 (d ∷ s)) e in
    let first = ltb-true (digit_value c) 16 (and_left (ltb (digit_value c) 16) (all_digits 16 (d ∷ s)) e) in
    let second = ltb-true (digit_value d) 16 (and_left (ltb (digit_value d) 16) (all_digits 16 s) tail) in
    go i first second (values_below s (and_right (ltb (digit_value d) 16) (all_digits 16 s) tail))
  where
    go : (i : ℕ) → digit_value c < 16 → digit_value d < 16 → Below 256 (pair_values s) → get_or ((digit_value c * 16 + digit_value d) ∷ pair_values s) i 0 < 256
    go zero f g h = omega arith
    go (suc i) f g h = h i
