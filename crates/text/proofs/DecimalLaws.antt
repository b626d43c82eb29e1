-- Laws of numerals without leading zeros, over the base. Assumes nothing.
use Prim.Native.Nat.{ℕ, zero, suc, ◌+◌, ◌-◌, ◌*◌, ◌/◌, ◌%◌, ◌^◌, ◌≤◌, ◌<◌, zero-le}
use mathlib.Core.Path.{◌≡◌, refl, sym, ◌∙◌, ap}
use mathlib.Core.Bool.{Bool, true, false, cond}
use mathlib.Core.List.{[], ◌∷◌, ◌++◌}
use native.Mathlib.Nat.{le_refl, le_trans, le_antisymm, div-lt_self, zero-div, zero-lt-suc, le_of_lt, not-le_of_lt, pow-le-pow_right, le_of_suc-le-suc, pow-suc, div-lt_iff_lt-mul, le-div_iff_mul-le, mod-eq_of_lt, pow-zero, one-mul, div-div-eq-div-mul, lt_of_lt_of_le}
use native.Mathlib.Numerals.{add-one}
use native.Mathlib.Omega.{arith}
use lib.ListN.{length}
use lib.Dec.{eqb, ltb, leb}
use borrow.Author.Tests.{lt-ltb, le-ltb, ltb-true, ltb-false, leb-true, leb-false, eqb-true}
use Rattle.text.specs.Numerals.{digit, digits, digit_count_up_to, digit_count, decimal, all_digits, value, low_bytes}
use Rattle.text.proofs.Truth.{below}
use Rattle.text.proofs.DigitLaws.{digit-is, digit_lt, length_digits, digits_split, digits_low, all-written, value_written}
use Rattle.text.proofs.HexWordLaws.{low_front}

module _ (b : ℕ) (two : 1 < b) where
  -- One digit less leaves a smaller number.
  quotient_le : (v f : ℕ) → v ≤ suc f → v / b ≤ f
  quotient_le zero f h = rw zero-div zero-le
  quotient_le (suc v) f h = le_of_suc-le-suc (le_trans (div-lt_self (zero-lt-suc v) two) h)

  -- Any bound that is large enough gives the same count.
  enough : (f g v : ℕ) → v ≤ f → v ≤ g → digit_count_up_to f b v ≡ digit_count_up_to g b v
  unfolding digit_count_up_to
  enough zero zero v hf hg = refl
  enough zero (suc g) v hf hg = rw (lt-ltb v b (omega arith))
  enough (suc f) zero v hf hg = rw (lt-ltb v b (omega arith))
  enough (suc f) (suc g) v hf hg =
      ap (λ (n : ℕ). cond (ltb v b) 1 (suc n)) (enough f g (v / b) (quotient_le v f hf) (quotient_le v g hg))

  pub count-one : (v : ℕ) → v < b → digit_count b v ≡ 1
  unfolding digit_count digit_count_up_to
  count-one zero h = refl
  count-one (suc v) h = rw (lt-ltb (suc v) b h)

  pub count_more : (v : ℕ) → b ≤ v → digit_count b v ≡ suc (digit_count b (v / b))
  unfolding digit_count digit_count_up_to
  count_more zero h = absurd (omega arith)
  count_more (suc v) h =
      rw (le-ltb (suc v) b h) (ap suc (enough v (suc v / b) (suc v / b) (quotient_le (suc v) v (le_refl (suc v))) (le_refl (suc v / b))))

  pub count_pos : (v : ℕ) → 0 < digit_count b v
  unfolding digit_count digit_count_up_to
  count_pos zero = omega arith
  count_pos (suc v) = go (ltb (suc v) b)
    where
      go : (t : Bool) → 0 < cond t 1 (suc (digit_count_up_to v b (suc v / b)))
      go true = omega arith
      go false = omega arith

  -- By the last digit: what holds of numbers of one digit, and of v where it holds of v / b, holds of all.
  by_digits : (P : ℕ → Type 0) → ((v : ℕ) → v < b → P v) → ((v : ℕ) → b ≤ v → P (v / b) → P v) → (v : ℕ) → P v
  by_digits P one more v = go v v (le_refl v)
    where
      go : (f v : ℕ) → v ≤ f → P v
      go zero v h = one v (omega arith)
      go (suc f) v h = test (ltb v b) refl (go f (v / b) (quotient_le v f h))
        where
          test : (t : Bool) → ltb v b ≡ t → P (v / b) → P v
          test true e ih = one v (ltb-true v b e)
          test false e ih = more v (ltb-false v b e) ih

  -- The count is the least that holds the number: v is below base ^ count, and, but for 0, not below base ^ (count - 1), so the first
  -- digit is not 0.
  pub count-holds : (v : ℕ) → v < b ^ digit_count b v
  count-holds = by_digits (λ v. v < b ^ digit_count b v)
      (λ v h. rw (count-one v h, pow-suc b 0, pow-zero, one-mul) h)
      (λ v h ih. rw (count_more v h, pow-suc) ((div-lt_iff_lt-mul (le_of_lt two)).0 ih))

  pub count_least : (v : ℕ) → 0 < v → b ^ (digit_count b v - 1) ≤ v
  count_least = by_digits (λ v. 0 < v → b ^ (digit_count b v - 1) ≤ v)
      (λ v h pos. rw (count-one v h, pow-zero) pos)
      (λ v h ih pos.
      let m = digit_count b (v / b) in
      let some = count_pos (v / b) in
      let shorter : suc m - 1 ≡ suc (m - 1) = omega arith in
      let quotient-pos = (le-div_iff_mul-le (le_of_lt two)).1 (rw one-mul h) in
      rw (count_more v h, shorter, pow-suc) ((le-div_iff_mul-le (le_of_lt two)).0 (ih quotient-pos)))

  pub count_le : (k v : ℕ) → v < b ^ suc k → digit_count b v ≤ suc k
  count_le k zero h = rw (count-one 0 (omega arith)) (omega arith)
  count_le k (suc v) h = go (leb (digit_count b (suc v)) (suc k)) refl
    where
      go : (t : Bool) → leb (digit_count b (suc v)) (suc k) ≡ t → digit_count b (suc v) ≤ suc k
      go true e = leb-true _ _ e
      go false e =
          let long = leb-false (digit_count b (suc v)) (suc k) e in
          absurd (not-le_of_lt h (le_trans (pow-le-pow_right (le_of_lt two) (omega arith)) (count_least (suc v) (zero-lt-suc v))))

  -- Between two powers of the base that follow each other the count is the higher exponent.
  pub count-is : (k v : ℕ) → b ^ k ≤ v → v < b ^ suc k → digit_count b v ≡ suc k
  count-is k v low high = le_antisymm (count_le k v high) (go (leb (suc k) (digit_count b v)) refl)
    where
      go : (t : Bool) → leb (suc k) (digit_count b v) ≡ t → suc k ≤ digit_count b v
      go true e = leb-true _ _ e
      go false e =
          let short = leb-false (suc k) (digit_count b v) e in
          absurd (not-le_of_lt (count-holds v) (le_trans (pow-le-pow_right (le_of_lt two) (omega arith)) low))

-- ---- decimals

pub length-decimal : (v : ℕ) → length (decimal v) ≡ digit_count 10 v
unfolding decimal
length-decimal v = length_digits 10 (digit_count 10 v) v

pub all-decimal : (v : ℕ) → all_digits 10 (decimal v) ≡ true
unfolding decimal
all-decimal v = all-written 10 (omega arith) (omega arith) (digit_count 10 v) v

-- One digit, and two.
pub decimal-one : (v : ℕ) → v < 10 → decimal v ≡ digit v ∷ []
unfolding decimal digits
decimal-one v h = let low : v % 10 ≡ v = mod-eq_of_lt h in rw (count-one 10 (omega arith) v h, low)

pub decimal_two : (v : ℕ) → 10 ≤ v → v < 100 → decimal v ≡ digits 10 2 v
unfolding decimal
decimal_two v low high = rw (count-is 10 (omega arith) 1 v low high)

-- From three digits on the last two stand after those of the number without them.
pub count_hundreds : (v : ℕ) → 100 ≤ v → digit_count 10 v ≡ digit_count 10 (v / 100) + 2
count_hundreds v h =
    let tens : v / 10 / 10 ≡ v / 100 = omega arith in
    rw (count_more 10 (omega arith) v (omega arith), count_more 10 (omega arith) (v / 10) (omega arith), tens) (omega arith)

pub decimal_hundreds : (v : ℕ) → 100 ≤ v → decimal v ≡ decimal (v / 100) ++ digits 10 2 (v % 100)
unfolding decimal
decimal_hundreds v h = rw (count_hundreds v h) (digits_split 10 (omega arith) (digit_count 10 (v / 100)) 2 v)

-- The two digits of a number below 100 are the hexadecimal digits of the byte that has them in its halves.
pub halves-digits : (n : ℕ) → n < 100 → digits 16 2 (n + n / 10 * 6) ≡ digits 10 2 n
unfolding digits
halves-digits n h =
    let first : (n + n / 10 * 6) / 16 % 16 ≡ n / 10 = eqb-true _ _ (below (λ n. eqb ((n + n / 10 * 6) / 16 % 16) (n / 10)) 100 refl n h) in
    let second : (n + n / 10 * 6) % 16 ≡ n % 10 = eqb-true _ _ (below (λ n. eqb ((n + n / 10 * 6) % 16) (n % 10)) 100 refl n h) in
    let tens : n / 10 % 10 ≡ n / 10 = omega arith in
    rw (first, second, tens)

-- ---- digits that a number holds

module _ (i v held rest : ℕ) (r : rest ≡ v / 10 ^ i) where
  -- One more digit, below those that are held.
  pub held_more : low_bytes i held ≡ digits 10 i v → low_bytes (i + 1) (held * 256 + (48 + rest % 10)) ≡ digits 10 (i + 1) v
  unfolding digits
  held_more e =
      let small : rest % 10 < 10 = omega arith in
      let first : digit (rest % 10) ≡ 48 + rest % 10 = sym (digit-is (rest % 10) (omega arith)) ∙ rw (lt-ltb (rest % 10) 10 small) in
      let byte = digit_lt (rest % 10) (omega arith) in
      let joined : held * 256 + (48 + rest % 10) ≡ digit (rest % 10) + held * 256 = omega (arith, first) in
      let one : i + 1 ≡ 1 + i = omega arith in
      rw (joined, add-one i, low_front i (digit (rest % 10)) held (omega arith), e, r)
      (sym (ap (λ (n : ℕ). digits 10 n v) (sym (add-one i) ∙ one) ∙ digits_split 10 (omega arith) 1 i v ∙ rw (digits_low 10 (omega arith) i v)))

  pub rest_more : rest / 10 ≡ v / 10 ^ (i + 1)
  rest_more = rw (r, add-one i, div-div-eq-div-mul, pow-suc)

-- It fits as many bytes.
pub held_fits : (i held d : ℕ) → held < 256 ^ i → d < 256 → held * 256 + d < 256 ^ (i + 1)
held_fits i held d h k = rw (add-one i, pow-suc) (omega arith)

-- Eight bytes hold at most 64 bits.
pub held_below : (i held : ℕ) → i ≤ 7 → held < 256 ^ i → held < 256 ^ 7
held_below i held h k = lt_of_lt_of_le k (pow-le-pow_right {n = 256} (omega arith) h)

-- A decimal reads back as its number.
pub value-decimal : (v : ℕ) → value 10 (decimal v) ≡ v
unfolding decimal
value-decimal v = value_written 10 (omega arith) (omega arith) (digit_count 10 v) v ∙ mod-eq_of_lt (count-holds 10 (omega arith) v)
