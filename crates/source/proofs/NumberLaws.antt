-- How each answer on a number meets its definition. Assumes nothing.
use Prim.Native.Nat.{ℕ, zero, suc, ◌-◌, ◌^◌, ◌≤◌, ◌<◌}
use mathlib.Core.Path.{◌≡◌, refl, sym, ◌∙◌, ap}
use mathlib.Core.Bool.{Bool, true, false, cond, ◌&&◌, ◌||◌, false≢true}
use mathlib.Core.List.{List, [], ◌∷◌, ◌++◌}
use native.Mathlib.Nat.{le_trans, pow-le-pow_right}
use native.Mathlib.Omega.{arith}
use lib.Dec.{ltb, leb}
use borrow.Author.Tests.{lt-leb, le-leb}
use lib.ListN.{length, take, drop, length-drop, take-append-drop}
use lib.Seq.{take_all}
use Rattle.std.specs.Prelude.{Option, Some, None}
use Rattle.text.specs.Bytes.{bytes}
use Rattle.text.specs.Numerals.{digit_value, all_digits, numeral}
use Rattle.source.specs.declared.Number.{Number}
use Rattle.source.specs.declared.Prefix.{Prefix}
use Rattle.source.specs.declared.Number.TheVariants.{Decimal, Minus, Unsigned}
use Rattle.source.specs.Numbers.{digits_up_to, written, decimal_digits, decimal_number, prefix, prefix_of, unsigned, number, is_number}
use Rattle.source.specs.Names.{is_name}
use Rattle.text.specs.Same.{same}
use Rattle.text.proofs.SameLaws.{same_equal, front-room}
use Rattle.text.proofs.Truth.{and_left, and_right, either}

-- ---- so many digits

module _ (base most : ℕ) (s : List ℕ) where
  pub digits-fit : 0 < base → base ^ most ≤ 2 ^ 64 → length s ≤ most → base ^ length s ≤ 2 ^ 64
  digits-fit pos room h = le_trans (pow-le-pow_right {n = base} pos h) room

-- ---- the ways to write a number

-- ---- so many digits

module _ (base most : ℕ) (s : List ℕ) where
  pub no_digits : length s ≡ 0 → None ≡ digits_up_to base most s
  no_digits e = rw (lt-leb 1 (length s) (omega arith))

  pub many-digits : 1 ≤ length s → most < length s → None ≡ digits_up_to base most s
  many-digits some h = rw (le-leb 1 (length s) some, lt-leb (length s) most h)

  pub few-digits : 1 ≤ length s → length s ≤ most → (r : Option ℕ) → r ≡ numeral base s → r ≡ digits_up_to base most s
  few-digits some h r e = rw (le-leb 1 (length s) some, le-leb (length s) most h) e

-- ---- the ways to write a number

-- The rest of a token after its first bytes.
pub rest_of : (start : ℕ) (t : List ℕ) → take (length t - start) (drop start t) ≡ drop start t
rest_of start t = take_all (length t - start) (drop start t) (rw length-drop (omega arith))

-- A decimal number, with its sign or without.
module _ (t : List ℕ) (a : Bool) (minus : a ≡ same (take 1 t) (bytes "-")) (n : Option ℕ) (r : Option Number) where
  pub is-minus : a ≡ true → n ≡ digits_up_to 10 decimal_digits (take (length t - 1) (drop 1 t)) → r ≡ written Minus n → r ≡ decimal_number t
  is-minus e q p = rw (← minus, e) (p ∙ ap (written Minus) (q ∙ ap (digits_up_to 10 decimal_digits) (rest_of 1 t)))

  pub is-decimal : a ≡ false → n ≡ digits_up_to 10 decimal_digits t → r ≡ written Decimal n → r ≡ decimal_number t
  is-decimal e q p = rw (← minus, e) (p ∙ ap (written Decimal) q)

-- A prefix has two bytes, and its digits fit 64 bits.
pub record PrefixFits (p : Prefix) (t : List ℕ) : Type 0 where
  pub room : 2 ≤ length t
  pub some : 0 < p.base
  pub base : p.base ≤ 16
  pub fits : p.base ^ p.most ≤ 2 ^ 64

pub prefix-fits : (t : List ℕ) (p : Prefix) → Some p ≡ prefix_of t → PrefixFits p t
prefix-fits t p is = go (same (take 2 t) (bytes "0x")) refl (same (take 2 t) (bytes "0b")) refl
  where
    go : (x : Bool) → same (take 2 t) (bytes "0x") ≡ x → (b : Bool) → same (take 2 t) (bytes "0b") ≡ b → PrefixFits p t
    go true h b k =
        let whole : Some p ≡ Some (prefix 16 8) = is ∙ rw h in
        let this : p ≡ prefix 16 8 = cc in
        rw this (record { room = front-room t (bytes "0x") true (sym h) refl; some = omega arith; base = omega arith; fits = omega arith })
    go false h true k =
        let whole : Some p ≡ Some (prefix 2 32) = is ∙ rw (h, k) in
        let this : p ≡ prefix 2 32 = cc in
        rw this (record { room = front-room t (bytes "0b") true (sym k) refl; some = omega arith; base = omega arith; fits = omega arith })
    go false h false k = let none : Some p ≡ None = is ∙ rw (h, k) in absurd (cc)

-- After a prefix digits are read.
pub prefixed : (t : List ℕ) (p : Prefix) → Some p ≡ prefix_of t → (n : Option ℕ) → n ≡ digits_up_to p.base p.most (take (length t - 2) (drop 2 t)) → (r : Option Number) → r ≡ written Unsigned n → r ≡ number t
unfolding number
prefixed t p is n q r e = rw (← is) (e ∙ ap (written Unsigned) (q ∙ ap (digits_up_to p.base p.most) (rest_of 2 t)))

-- ---- what digits of a base begin with

module _ (b : ℕ) where
  -- The first of them are digits, ..
  digits-front : (n : ℕ) (t : List ℕ) → all_digits b t ≡ true → all_digits b (take n t) ≡ true
  unfolding all_digits
  digits-front zero t e = refl
  digits-front (suc n) [] e = refl
  digits-front (suc n) (c ∷ t) e =
      rw (and_left (ltb (digit_value c) b) (all_digits b t) e, digits-front n t (and_right (ltb (digit_value c) b) (all_digits b t) e))

  -- .. so they begin with nothing that has another byte: decimal ones with no `-`, 0x or 0b.
  pub no_front : (front : List ℕ) → all_digits b front ≡ false → (t : List ℕ) → all_digits b t ≡ true → same (take (length front) t) front ≡ false
  no_front front none t e = go (same (take (length front) t) front) refl
    where
      go : (begins : Bool) → same (take (length front) t) front ≡ begins → begins ≡ false
      go true is = absurd (false≢true (sym none ∙ ap (all_digits b) (sym (same_equal _ _ is)) ∙ digits-front (length front) t e))
      go false is = refl

-- ---- B5: what was accepted before 0b came

-- A token that begins with 0b is neither a decimal number nor a name.
module _ (t : List ℕ) (begins : same (take 2 t) (bytes "0b") ≡ true) where
  whole : t ≡ bytes "0b" ++ drop 2 t
  whole = sym (take-append-drop 2 t) ∙ ap (λ (u : List ℕ). u ++ drop 2 t) (same_equal _ _ begins)

  binary_no_decimal : decimal_number t ≡ None
  unfolding all_digits same
  binary_no_decimal =
      rw whole
      (either (λ (n : Option ℕ). written Decimal n ≡ None) (leb 1 (length (bytes "0b" ++ drop 2 t)) && leb (length (bytes "0b" ++ drop 2 t)) decimal_digits) refl refl)

  binary_no_name : is_name t ≡ false
  unfolding is_name
  binary_no_name = rw whole

-- The number that a token is by document 01 alone.
abbrev pub number_before : List ℕ → Option Number
number_before t = cond (same (take 2 t) (bytes "0x")) (unsigned (prefix 16 8) t) (decimal_number t)

-- What was a number or a label there is the same number, or a label, now.
pub number-stays : (t : List ℕ) → (is_number (number_before t) || is_name t) ≡ true → number t ≡ number_before t
unfolding number
number-stays t = go (same (take 2 t) (bytes "0x")) refl (same (take 2 t) (bytes "0b")) refl
  where
    go : (x : Bool) → same (take 2 t) (bytes "0x") ≡ x → (b : Bool) → same (take 2 t) (bytes "0b") ≡ b
        → (is_number (number_before t) || is_name t) ≡ true → number t ≡ number_before t
    go true h b k e = rw h
    go false h true k e = absurd (false≢true (rw (h, binary_no_decimal t k, binary_no_name t k) at e))
    go false h false k e = rw (h, k)
