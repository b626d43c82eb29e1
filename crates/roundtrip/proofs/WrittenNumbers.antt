-- Decimals and signed decimals, as they are written and read. Assumes nothing.
use Prim.Native.Nat.{ℕ, ◌+◌, ◌-◌, ◌^◌, ◌≤◌, ◌<◌}
use Prim.Native.Char.{code}
use mathlib.Core.Path.{◌≡◌, refl, ◌∙◌, ap}
use mathlib.Core.Bool.{Bool, true, false, cond}
use mathlib.Core.List.{List, [], ◌∷◌, ◌++◌}
use native.Mathlib.Omega.{arith}
use lib.Dec.{ltb, leb}
use lib.ListN.{length}
use borrow.Author.Tests.{ltb-true, ltb-false, leb-true, le-leb}
use Rattle.text.specs.Bytes.{bytes}
use Rattle.text.specs.Numerals.{is_between, digit_value, all_digits, value, decimal}
use Rattle.text.proofs.Truth.{and_left, and_right, all_below, between}
use Rattle.text.proofs.DecimalLaws.{count_pos, count_le, length-decimal, all-decimal, value-decimal}
use Rattle.source.specs.declared.Number.TheVariants.{Decimal, Minus}
use Rattle.std.proofs.Common.{Some}
use Rattle.source.specs.Bytes.{are_all}
use Rattle.source.specs.Numbers.{number, is_number}
use Rattle.source.proofs.NumberLaws.{no_front}
use Rattle.text.specs.Same.{same}
use Rattle.lines.specs.Ranges.{is_immediate, modulo}
use Rattle.lister.specs.Listing.{signed_decimal}
use Rattle.roundtrip.proofs.WrittenTokens.{is_plain, Written}

-- ---- decimal digits among the bytes

-- Letters are worth ten and more.
letters_ten : (a b : Bool) (x y : ℕ) → 10 ≤ cond a (10 + x) (cond b (10 + y) 16)
letters_ten true b x y = omega arith
letters_ten false true x y = omega arith
letters_ten false false x y = omega arith

-- A digit of base 10 is one of the bytes `0` to `9`.
digit_between : (c : ℕ) → ltb (digit_value c) 10 ≡ true → is_between "0" "9" c ≡ true
digit_between c e = go (is_between "0" "9" c) refl e
  where
    letter : ℕ
    letter = cond (is_between "A" "F" c) (10 + (c - code "A")) (cond (is_between "a" "f" c) (10 + (c - code "a")) 16)

    go : (t : Bool) → is_between "0" "9" c ≡ t → ltb (cond t (c - code "0") letter) 10 ≡ true → is_between "0" "9" c ≡ true
    go true is h = is
    go false is h =
        let ten = letters_ten (is_between "A" "F" c) (is_between "a" "f" c) (c - code "A") (c - code "a") in
        absurd (omega (arith, ltb-true letter 10 h, ten))

-- What holds of these ten bytes holds of each such digit.
digit_passes : (test : ℕ → Bool) → all_below (λ n. cond (ltb n 48) true (test n)) 58 ≡ true → (c : ℕ) → ltb (digit_value c) 10 ≡ true → test c ≡ true
digit_passes test all-ten c e =
    let within = digit_between c e in
    let low = leb-true 48 c (and_left (leb 48 c) (leb c 57) within) in
    let high = leb-true c 57 (and_right (leb 48 c) (leb c 57) within) in
    between test 48 58 all-ten c low (omega arith)

plain-digits : (s : List ℕ) → all_digits 10 s ≡ true → are_all is_plain s ≡ true
unfolding all_digits
plain-digits [] e = refl
plain-digits (c ∷ s) e =
    let here = and_left (ltb (digit_value c) 10) (all_digits 10 s) e in
    let rest = and_right (ltb (digit_value c) 10) (all_digits 10 s) e in
    rw (digit_passes is_plain refl c here, plain-digits s rest)

-- ---- digits read as a number

module _ (s : List ℕ) (some : 1 ≤ length s) (few : length s ≤ 10) (e : all_digits 10 s ≡ true) where
  number_digits : number s ≡ Some (Decimal (value 10 s))
  unfolding number all_digits
  number_digits = rw (no_front 10 (bytes "0x") refl s e, no_front 10 (bytes "0b") refl s e, no_front 10 (bytes "-") refl s e, le-leb 1 (length s) some, le-leb (length s) 10 few, e)

  number-minus : number (bytes "-" ++ s) ≡ Some (Minus (value 10 s))
  unfolding number same
  number-minus = rw (le-leb 1 (length s) some, le-leb (length s) 10 few, e)

-- ---- immediates

-- A token that is written for the immediate i.
pub record ImmediateToken (i : ℕ) (t : List ℕ) : Type 0 where
  pub written : Written t
  pub numeric : is_number (number t) ≡ true
  pub within : is_immediate (number t) ≡ true
  pub stored : modulo 4096 (number t) ≡ i

module _ (v : ℕ) (h : v < 10 ^ 4) where
  some : 1 ≤ length (decimal v)
  some = rw length-decimal (count_pos 10 (omega arith) v)

  few : length (decimal v) ≤ 10
  few = rw length-decimal (omega (arith, count_le 10 (omega arith) 3 v h))

  number-decimal : number (decimal v) ≡ Some (Decimal v)
  number-decimal = number_digits (decimal v) some few (all-decimal v) ∙ ap (λ (n : ℕ). Some (Decimal n)) (value-decimal v)

  number-minus-decimal : number (bytes "-" ++ decimal v) ≡ Some (Minus v)
  number-minus-decimal = number-minus (decimal v) some few (all-decimal v) ∙ ap (λ (n : ℕ). Some (Minus n)) (value-decimal v)

  written-decimal : Written (decimal v)
  written-decimal = record { some = some; plain = plain-digits (decimal v) (all-decimal v) }

  written-minus-decimal : Written (bytes "-" ++ decimal v)
  written-minus-decimal = record { some = omega arith; plain = plain-digits (decimal v) (all-decimal v) }

pub immediate-token : (i : ℕ) → i < 2 ^ 12 → ImmediateToken i (signed_decimal i)
unfolding signed_decimal
immediate-token i h = go (ltb i (2 ^ 11)) refl
  where
    go : (t : Bool) → ltb i (2 ^ 11) ≡ t → ImmediateToken i (cond t (decimal i) (bytes "-" ++ decimal (2 ^ 12 - i)))
    go true e =
        let low = ltb-true i (2 ^ 11) e in
        let is = number-decimal i (omega arith) in
        record { written = written-decimal i (omega arith); numeric = rw is; within = rw is (le-leb i 2047 (omega arith)); stored = rw is (omega arith) }
    go false e =
        let high = ltb-false i (2 ^ 11) e in
        let v = 2 ^ 12 - i in
        let is = number-minus-decimal v (omega arith) in
        record { written = written-minus-decimal v (omega arith); numeric = rw is; within = rw is (le-leb v 2048 (omega arith)); stored = rw is (omega arith) }
