-- Laws of the prefix. Assumes nothing.
use Prim.Native.Nat.{ℕ, suc, ◌+◌, ◌-◌, ◌*◌, ◌/◌, ◌%◌, ◌^◌, ◌≤◌, ◌<◌}
use mathlib.Core.Path.{◌≡◌, refl, sym, ◌∙◌, ap}
use mathlib.Core.Bool.{Bool, true, false, cond}
use mathlib.Core.List.{List, ◌∷◌, ◌++◌, append_assoc}
use native.Mathlib.Omega.{arith}
use lib.Dec.{eqb, ltb}
use lib.ListN.{length, take, length-append}
use lib.Seq.{take_at, take-append-le, take-append-add}
use borrow.Author.Tests.{eqb-true, ltb-true, ltb-false}
use Rattle.text.specs.Numerals.{digit, digits, digit_count, decimal, low_bytes}
use Rattle.text.specs.Place.{put}
use Rattle.text.proofs.Truth.{below}
use Rattle.text.proofs.PieceLaws.{more as joined, put-cut}
use Rattle.text.proofs.DigitLaws.{digits_split, digits_low}
use Rattle.text.proofs.DecimalLaws.{count_pos, count-one, count-is, count_hundreds, decimal-one, decimal_two, decimal_hundreds, halves-digits}
use Rattle.text.proofs.HexWordLaws.{length_low, low_split, low_front, pair, pair-bytes, pair-unmoved}
use Rattle.trace.specs.Prefixes.{cycle_prefix, last_two, GivesPrefix}

-- ---- the last two characters

-- The number whose hexadecimal digits are the decimal ones of n.
module _ (n : ℕ) (h : n < 100) where
  halved : n + n / 10 * 6 < 256
  halved = omega arith

  pub pair_is : pair (n + n / 10 * 6) ≡ digit (n / 10) + digit (n % 10) * 256
  pair_is =
      let high : (n + n / 10 * 6) / 16 ≡ n / 10 = omega arith in
      let low : (n + n / 10 * 6) % 16 ≡ n % 10 = omega arith in
      rw (high, low)

  pub pair_of_two : (r : ℕ) → r ≡ pair (n + n / 10 * 6) * 65536 ^ 0 → r ≡ digit (n / 10) + digit (n % 10) * 256
  pair_of_two r e = pair-unmoved (n + n / 10 * 6) r e ∙ pair_is

  -- Not lowered they are the digits.
  pub last_digits : last_two n 0 ≡ digits 10 2 n
  last_digits =
      let whole : digit (n / 10) + digit (n % 10) * 256 - 0 ≡ pair (n + n / 10 * 6) = omega (arith, pair_is) in
      ap (low_bytes 2) whole ∙ pair-bytes (n + n / 10 * 6) halved ∙ halves-digits n h

-- A digit below 10 is at least the byte 48.
pub digit-above : (d : ℕ) → d < 10 → 48 ≤ digit d
digit-above d h = let byte : 48 + d ≡ digit d = eqb-true _ _ (below (λ d. eqb (48 + d) (digit d)) 10 refl d h) in omega (arith, byte)

-- ---- the bytes that are held

-- The first of the low bytes.
low_take : (n k v : ℕ) → n ≤ k → take n (low_bytes k v) ≡ low_bytes n v
low_take n k v h =
    let parts : n + (k - n) ≡ k = omega arith in
    ap (λ (m : ℕ). take n (low_bytes m v)) (sym parts) ∙ ap (take n) (low_split n (k - n) v) ∙ take_at (low_bytes n v) _ n (length_low n v)

-- A letter and a blank below six bytes.
lettered : (letter held : ℕ) → letter < 256 → low_bytes 8 (held * 65536 + 8192 + letter) ≡ letter ∷ 32 ∷ low_bytes 6 held
lettered letter held h =
    let joined : held * 65536 + 8192 + letter ≡ letter + (32 + held * 256) * 256 = omega arith in
    rw (joined, low_front 7 letter (32 + held * 256) h, low_front 6 32 held (omega arith))

-- Digits that one number holds, and digits that two hold.
pub held_short : (n q held more : ℕ) → n ≤ 6 → low_bytes n held ≡ digits 10 n q → take n (low_bytes 6 held ++ low_bytes 8 more) ≡ digits 10 n q
held_short n q held more h e =
    let six : n ≤ length (low_bytes 6 held) = rw length_low h in
    take-append-le n (low_bytes 6 held) (low_bytes 8 more) six ∙ low_take n 6 held h ∙ e

pub held_long : (n q held more : ℕ) → 6 ≤ n → n ≤ 14 → low_bytes 6 held ≡ digits 10 6 (q / 10 ^ (n - 6)) → low_bytes (n - 6) more ≡ digits 10 (n - 6) q
    → take n (low_bytes 6 held ++ low_bytes 8 more) ≡ digits 10 n q
held_long n q held more h k e f =
    let parts : 6 + (n - 6) ≡ n = omega arith in
    let cut : take (length (low_bytes 6 held) + (n - 6)) (low_bytes 6 held ++ low_bytes 8 more) ≡ low_bytes 6 held ++ take (n - 6) (low_bytes 8 more) = take-append-add (low_bytes 6 held) (low_bytes 8 more) (n - 6) in
    ap (λ (m : ℕ). take m (low_bytes 6 held ++ low_bytes 8 more)) (sym parts ∙ ap (λ (m : ℕ). m + (n - 6)) (sym (length_low 6 held)))
    ∙ cut
    ∙ rw (low_take (n - 6) 8 more (omega arith), e, f)
    (sym (ap (λ (m : ℕ). digits 10 m q) (sym parts) ∙ digits_split 10 (omega arith) 6 (n - 6) q ∙ ap (λ (l : List ℕ). digits 10 6 (q / 10 ^ (n - 6)) ++ l) (digits_low 10 (omega arith) (n - 6) q)))

-- ---- the prefixes

-- Of a cycle of one digit: its letter is held, and the last two are a blank and the digit.
pub gives_one : (c : ℕ) → c < 10 → GivesPrefix 0 16 1 0 0 c
unfolding low_bytes
gives_one c h =
    let digits_of : ℕ → ℕ = λ (c : ℕ). digit ((c - 0) / 10) + digit ((c - 0) % 10) * 256 - 16 in
    let blank : digits_of c % 256 ≡ 32 = eqb-true _ _ (below (λ c. eqb (digits_of c % 256) 32) 10 refl c h) in
    let last : digits_of c / 256 % 256 ≡ digit c = eqb-true _ _ (below (λ c. eqb (digits_of c / 256 % 256) (digit c)) 10 refl c h) in
    record {
      above = omega arith;
      near = omega arith;
      slight = omega arith;
      counted = sym (count-one 10 (omega arith) c h);
      few = omega arith;
      room = omega arith;
      front = λ letter k. let same : (0 + letter) % 256 ≡ letter = omega arith in rw (same, blank, last, decimal-one c h);
    }

-- Of one of two digits: a blank is held too.
pub gives_two : (c : ℕ) → 10 ≤ c → c < 100 → GivesPrefix 0 0 2 8192 0 c
unfolding low_bytes
gives_two c l h =
    let all : c - 0 ≡ c = omega arith in
    record {
      above = omega arith;
      near = omega arith;
      slight = omega arith;
      counted = sym (count-is 10 (omega arith) 1 c l h);
      few = omega arith;
      room = omega arith;
      front = λ letter k.
          let same : (8192 + letter) % 256 ≡ letter = omega arith in
          let second : (8192 + letter) / 256 ≡ 32 = omega arith in
          let blank : (8192 + letter) / 256 % 256 ≡ 32 = rw second in
          rw (same, blank) (ap (λ (l : List ℕ). letter ∷ 32 ∷ l) (ap (λ (n : ℕ). last_two n 0) all ∙ last_digits c h ∙ sym (decimal_two c l h)));
    }

-- Of one in the hundred that begins with the n digits of q, which two numbers hold.
pub gives_hundred : (q n held more c : ℕ) → 1 ≤ q → n ≡ digit_count 10 q → n ≤ 11 → held < 256 ^ 6
    → take n (low_bytes 6 held ++ low_bytes 8 more) ≡ digits 10 n q → q * 100 ≤ c → c < q * 100 + 100
    → GivesPrefix (q * 100) 0 (n + 2) (held * 65536 + 8192) more c
unfolding decimal
gives_hundred q n held more c some count few fits e l h =
    let hundred : c / 100 ≡ q = omega arith in
    let low : c - q * 100 ≡ c % 100 = omega arith in
    let two : n + 2 ≡ suc (suc n) = omega arith in
    let whole : digits 10 n q ++ digits 10 2 (c % 100) ≡ decimal c = rw count (ap (λ (x : ℕ). decimal x ++ digits 10 2 (c % 100)) (sym hundred) ∙ sym (decimal_hundreds c (omega arith))) in
    record {
      above = l;
      near = h;
      slight = omega arith;
      counted = sym (count_hundreds c (omega arith) ∙ rw (hundred, ← count));
      few = omega arith;
      room = omega arith;
      front = λ letter k. rw (lettered letter held k, two, e) (ap (λ (l : List ℕ). letter ∷ 32 ∷ (digits 10 n q ++ l)) (ap (λ (n : ℕ). last_two n 0) low ∙ last_digits (c % 100) (omega arith)) ∙ ap (λ (l : List ℕ). letter ∷ 32 ∷ l) whole);
    }

-- ---- laying it

-- Two characters put over the end of a piece, and what follows them over what is left of it.
over_two : (d f g xs two rest : List ℕ) (at n : ℕ) → f ≡ put d at xs → g ≡ put f (at + n) two → length two ≡ 2 → 5 ≤ length rest
    → n ≤ length xs → length xs ≤ n + 7 → put g (at + n + 2) rest ≡ put d at (take n xs ++ two ++ rest)
over_two d f g xs two rest at n p q e h k l =
    joined f g (put g (at + n + 2) rest) (at + n) (at + n + 2) two rest (omega arith) q refl
    ∙ rw p (put-cut d at n xs (two ++ rest) k (rw length-append (omega arith)))
    ∙ ap (put d at) (sym (append_assoc (take n xs) two rest))

module _ (letter c at base lowered count held more : ℕ) (byte : letter < 256) (s : GivesPrefix base lowered count held more c) where
  -- The front of a line, by the bytes that are held and the last two characters; what is put after it goes over the rest.
  pub cycle-put : (d e f g rest : List ℕ) → e ≡ put d at (low_bytes 8 (held + letter)) → f ≡ cond (ltb 8 count) (put e (at + 8) (low_bytes 8 more)) e
      → g ≡ put f (at + count) (last_two (c - base) lowered) → 5 ≤ length rest → put g (at + count + 2) rest ≡ put d at (cycle_prefix letter c ++ rest)
  cycle-put d e f g rest p q r h = go (ltb 8 count) refl
    where
      first : List ℕ
      first = low_bytes 8 (held + letter)

      second : List ℕ
      second = low_bytes 8 more

      some : 0 < count
      some = rw s.counted (count_pos 10 (omega arith) c)

      go : (t : Bool) → ltb 8 count ≡ t → put g (at + count + 2) rest ≡ put d at (cycle_prefix letter c ++ rest)
      go false t =
          let short = ltb-false 8 count t in
          let fits : count ≤ length first = rw length_low short in
          over_two d f g first (last_two (c - base) lowered) rest at count (rw t at q ∙ p) r (length_low 2 _) h fits (rw length_low (omega (arith, some)))
          ∙ ap (put d at) (ap (λ (l : List ℕ). l ++ last_two (c - base) lowered ++ rest) (sym (take-append-le count first second fits)) ∙ ap (λ (l : List ℕ). l ++ rest) (s.front letter byte))
      go true t =
          let long = ltb-true 8 count t in
          let both : length (first ++ second) ≡ 16 = rw (length-append, length_low, length_low) in
          over_two d f g (first ++ second) (last_two (c - base) lowered) rest at count (joined d e f at (at + 8) first second (rw length_low) p (rw t at q)) r (length_low 2 _) h (omega (arith, both, s.few)) (omega (arith, both))
          ∙ ap (λ (l : List ℕ). put d at (l ++ rest)) (s.front letter byte)
