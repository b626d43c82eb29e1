-- Laws of numerals, over the base and the number of digits. Assumes nothing.
use Prim.Native.Nat.{ℕ, zero, suc, ◌+◌, ◌*◌, ◌/◌, ◌%◌, ◌^◌, ◌≤◌, ◌<◌, zero-le}
use mathlib.Core.Path.{◌≡◌, refl, sym, ◌∙◌, ap}
use mathlib.Core.Bool.{Bool, true, false, cond, ◌&&◌, and_assoc}
use mathlib.Core.List.{List, [], ◌∷◌, ◌++◌, append_assoc, append-nil}
use native.Mathlib.Nat.{add-zero, add-suc, zero-add, zero-mul, pow-zero, pow-suc, pow-succ', mod-lt, add-mul, mul_assoc, mul_comm, add_assoc, mul-one, mod-one, div-one, div-div-eq-div-mul, one-le-pow, pow-le-pow_right, lt_of_lt_of_le, lt_of_le_of_lt, le_trans, one-mul}
use native.Mathlib.Omega.{arith}
use native.Mathlib.Numerals.{add-one}
use lib.Arith.{mod-mul, digits_lt, digits_div, digits_mod}
use lib.ListN.{length, length-append, get_or, drop, drop_of_length-le}
use lib.Seq.{drop-cons}
use lib.Dec.{ltb, eqb}
use borrow.Author.Tests.{lt-ltb, le-ltb, ltb-true, eqb-true}
use Rattle.std.proofs.Common.{Option, Some, None}
use Rattle.std.specs.List.{list_all}
use Rattle.text.specs.Numerals.{digit, digit_value, digits, all_digits, value, numeral}
use Rattle.text.proofs.Truth.{and_left, and_right, below}

-- ---- one digit

-- What is written as a digit is read as that digit.
pub digit-back : (v : ℕ) → v < 16 → digit_value (digit v) ≡ v
digit-back v h = eqb-true _ _ (below (λ v. eqb (digit_value (digit v)) v) 16 refl v h)

pub digit_lt : (v : ℕ) → v < 16 → digit v < 128
digit_lt v h = ltb-true _ _ (below (λ v. ltb (digit v) 128) 16 refl v h)

-- Figures stand together, and so do capitals.
pub digit-is : (v : ℕ) → v < 16 → cond (ltb v 10) (48 + v) (55 + v) ≡ digit v
digit-is v h = eqb-true _ _ (below (λ v. eqb (cond (ltb v 10) (48 + v) (55 + v)) (digit v)) 16 refl v h)

-- ---- the number as it is read, digit by digit

-- What digits stand for where those before them stand for `acc`.
unfoldable pub value_after : ℕ → ℕ → List ℕ → ℕ
value_after b acc [] = acc
value_after b acc (c ∷ cs) = value_after b (acc * b + digit_value c) cs

-- What reading them answers where those before them are digits that stand for `acc`.
abbrev pub numeral_after : ℕ → ℕ → List ℕ → Option ℕ
numeral_after b acc cs = cond (all_digits b cs) (Some (value_after b acc cs)) None

after_is : (b acc : ℕ) (cs : List ℕ) → value_after b acc cs ≡ acc * b ^ length cs + value b cs
unfolding value_after value
after_is b acc [] = rw (pow-zero, mul-one, add-zero)
after_is b acc (c ∷ cs) = after_is b (acc * b + digit_value c) cs ∙ rw (pow-succ', add-mul, mul_assoc, add_assoc)

pub value-is : (b : ℕ) (cs : List ℕ) → value_after b 0 cs ≡ value b cs
value-is b cs = after_is b 0 cs ∙ rw (zero-mul, zero-add)

pub numeral-is : (b : ℕ) (cs : List ℕ) → numeral_after b 0 cs ≡ numeral b cs
numeral-is b cs = rw (value-is b cs)

-- ---- the digits that are written

pub length_digits : (b k v : ℕ) → length (digits b k v) ≡ k
unfolding digits
length_digits b zero v = refl
length_digits b (suc k) v = length-append (digits b k (v / b)) _ ∙ add-one (length (digits b k (v / b))) ∙ ap suc (length_digits b k (v / b))

module _ (b : ℕ) (some : 0 < b) where
  power_pos : (k : ℕ) → 0 < b ^ k
  power_pos k = one-le-pow k b some

  -- The digits in two parts.
  pub digits_split : (j k v : ℕ) → digits b (j + k) v ≡ digits b j (v / b ^ k) ++ digits b k (v % b ^ k)
  unfolding digits
  digits_split j zero v = rw (add-zero, pow-zero, div-one, append-nil)
  digits_split j (suc k) v =
      let low = mod-mul v (power_pos k) some in
      let small = mod-lt v some in
      rw (add-suc, digits, digits_split j k (v / b), append_assoc, pow-suc, low, digits_div (v / b % b ^ k) small, digits_mod (v / b % b ^ k) small, div-div-eq-div-mul, mul_comm b (b ^ k))

  -- Only the low digits are written.
  pub digits_low : (k v : ℕ) → digits b k (v % b ^ k) ≡ digits b k v
  unfolding digits
  digits_low k v = sym (ap (λ (n : ℕ). digits b n v) (sym (zero-add k)) ∙ digits_split 0 k v)

  module _ (few : b ≤ 16) where
    low_digit : (v : ℕ) → digit_value (digit (v % b)) ≡ v % b
    low_digit v = digit-back (v % b) (lt_of_lt_of_le (mod-lt v some) few)

    -- Written bytes are digits.
    pub all_digits_lem : (k v : ℕ) (s : List ℕ) → all_digits b (digits b k v ++ s) ≡ all_digits b s
    unfolding digits all_digits
    all_digits_lem zero v s = refl
    all_digits_lem (suc k) v s =
        rw append_assoc
        (all_digits_lem k (v / b) (digit (v % b) ∷ s) ∙ rw (low_digit v, lt-ltb (v % b) b (mod-lt v some)))

    -- What is written reads back, modulo base ^ count.
    pub value-digits : (k v a : ℕ) (s : List ℕ) → value_after b a (digits b k v ++ s) ≡ value_after b (a * b ^ k + v % b ^ k) s
    unfolding digits value_after
    value-digits zero v a s = rw (pow-zero, mul-one, mod-one, add-zero)
    value-digits (suc k) v a s =
        ap (λ (l : List ℕ). value_after b a l) (append_assoc (digits b k (v / b)) _ s)
        ∙ value-digits k (v / b) a (digit (v % b) ∷ s)
        ∙ rw (low_digit v, pow-suc, mod-mul v (power_pos k) some, add-mul, mul_assoc, add_assoc)

    pub all-written : (k v : ℕ) → all_digits b (digits b k v) ≡ true
    unfolding all_digits
    all-written k v = rw (← append-nil (digits b k v)) (all_digits_lem k v [])

    pub value_written : (k v : ℕ) → value b (digits b k v) ≡ v % b ^ k
    unfolding value_after
    value_written k v =
        sym (value-is b (digits b k v))
        ∙ rw (← append-nil (digits b k v)) (value-digits k v 0 [] ∙ rw (zero-mul, zero-add))

-- ---- digits among bytes

-- Bytes are digits where each of them is one.
pub all_digits-is : (b : ℕ) (s : List ℕ) → list_all (λ c. ltb (digit_value c) b) s ≡ all_digits b s
unfolding all_digits
all_digits-is b [] = refl
all_digits-is b (c ∷ s) = rw (all_digits-is b s)

-- Digits side by side.
pub all_append : (b : ℕ) (s t : List ℕ) → all_digits b (s ++ t) ≡ (all_digits b s && all_digits b t)
unfolding all_digits
all_append b [] t = refl
all_append b (c ∷ s) t = rw (all_append b s t) (sym (and_assoc (ltb (digit_value c) b) _ _))

-- Each of some digits is one.
pub digit_of_lem : (b : ℕ) (s : List ℕ) (i : ℕ) → all_digits b s ≡ true → i < length s → digit_value (get_or s i 0) < b
unfolding all_digits
digit_of_lem b [] i e h = absurd (omega arith)
digit_of_lem b (c ∷ s) zero e h = ltb-true (digit_value c) b (and_left (ltb (digit_value c) b) (all_digits b s) e)
digit_of_lem b (c ∷ s) (suc i) e h = digit_of_lem b s i (and_right (ltb (digit_value c) b) (all_digits b s) e) (omega arith)

-- ---- the digits that are read

-- Digits stand for a number below base ^ count.
pub value-after_lt : (b a m : ℕ) (s : List ℕ) → all_digits b s ≡ true → a < m → value_after b a s < m * b ^ length s
unfolding all_digits value_after
value-after_lt b a m [] e h = rw (pow-zero, mul-one) h
value-after_lt b a m (c ∷ s) e h =
    let d = ltb-true (digit_value c) b (and_left (ltb (digit_value c) b) (all_digits b s) e) in
    rw (pow-succ', ← mul_assoc)
    (value-after_lt b (a * b + digit_value c) (m * b) s (and_right (ltb (digit_value c) b) (all_digits b s) e) (digits_lt h d))

pub value_lt : (b : ℕ) (s : List ℕ) → all_digits b s ≡ true → value b s < b ^ length s
value_lt b s e = rw (← value-is b s) (rw one-mul at (value-after_lt b 0 1 s e (omega arith)))

-- A turn of the readers, at the byte i.
module _ (b i : ℕ) (s : List ℕ) (h : i < length s) (d : ℕ) (e : d ≡ digit_value (get_or s i 0)) where
  here : all_digits b (drop i s) ≡ (ltb d b && all_digits b (drop (i + 1) s))
  unfolding all_digits
  here = rw (add-one i, drop-cons s i 0 h, e)

  pub all_more : d < b → all_digits b (drop (i + 1) s) ≡ all_digits b (drop i s)
  all_more k = sym (here ∙ rw (lt-ltb d b k))

  pub all_stop : b ≤ d → false ≡ all_digits b (drop i s)
  all_stop k = sym (here ∙ rw (le-ltb d b k))

  -- Among digits this byte is one, and those after it are.
  pub digit-good : all_digits b (drop i s) ≡ true → d < b
  digit-good all = ltb-true d b (and_left (ltb d b) (all_digits b (drop (i + 1) s)) (sym here ∙ all))

  pub digits-good : all_digits b (drop i s) ≡ true → all_digits b (drop (i + 1) s) ≡ true
  digits-good all = and_right (ltb d b) (all_digits b (drop (i + 1) s)) (sym here ∙ all)

  pub value_more : (a : ℕ) → value_after b (a * b + d) (drop (i + 1) s) ≡ value_after b a (drop i s)
  unfolding value_after
  value_more a = rw (add-one i, drop-cons s i 0 h, e)

  pub numeral_more : (a : ℕ) → d < b → numeral_after b (a * b + d) (drop (i + 1) s) ≡ numeral_after b a (drop i s)
  numeral_more a k = rw (all_more k, value_more a)

  pub numeral_stop : (a : ℕ) → b ≤ d → None ≡ numeral_after b a (drop i s)
  numeral_stop a k = rw (← (all_stop k))

  -- The number so far stays below base ^ count, and so within the whole's bound.
  pub value-fits : (a m : ℕ) → a < b ^ i → d < b → b ^ length s ≤ m → (a * b + d < b ^ (i + 1)) × (b ^ (i + 1) ≤ m)
  value-fits a m ha hd hm =
      (rw (add-one, pow-suc) (digits_lt ha hd), le_trans (rw add-one (pow-le-pow_right (lt_of_le_of_lt zero-le hd) h)) hm)

-- No byte is left.
module _ (b i : ℕ) (s : List ℕ) (h : length s ≤ i) where
  pub all_end : true ≡ all_digits b (drop i s)
  unfolding all_digits
  all_end = rw (drop_of_length-le s h)

  pub value-end : (a : ℕ) → a ≡ value_after b a (drop i s)
  unfolding value_after
  value-end a = rw (drop_of_length-le s h)

  pub numeral-end : (a : ℕ) → Some a ≡ numeral_after b a (drop i s)
  numeral-end a = rw (← all_end, ← (value-end a))

-- ---- an answer that is a number where a test holds

module _ (t : Bool) (n : ℕ) where
  pub number_yes : (v : ℕ) → cond t (Some n) None ≡ Some v → t ≡ true
  number_yes v = go t
    where
      go : (t : Bool) → cond t (Some n) None ≡ Some v → t ≡ true
      go true e = refl
      go false e = cc

  pub number_no : cond t (Some n) None ≡ None → t ≡ false
  number_no = go t
    where
      go : (t : Bool) → cond t (Some n) None ≡ None → t ≡ false
      go true e = cc
      go false e = refl

  pub number-value : (v : ℕ) → cond t (Some n) None ≡ Some v → v ≡ n
  number-value v = go t
    where
      go : (t : Bool) → cond t (Some n) None ≡ Some v → v ≡ n
      go true e = cc
      go false e = cc

  -- The number, or 0 where there is none.
  pub number_is : (v : ℕ) → cond t (Some n) None ≡ Some v → v ≡ cond t n 0
  number_is v e = rw (number_yes v e) (number-value v e)

  pub number-none : cond t (Some n) None ≡ None → 0 ≡ cond t n 0
  number-none e = rw (number_no e)
