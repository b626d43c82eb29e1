-- Laws of a number's bytes, and of values packed into bytes. Assumes nothing.
use Prim.Native.Nat.{ℕ, zero, suc, ◌+◌, ◌-◌, ◌*◌, ◌/◌, ◌%◌, ◌^◌, ◌<◌}
use mathlib.Core.Path.{◌≡◌, refl, sym, ap, ap₂, ◌∙◌}
use mathlib.Core.Bool.{Bool, true, ◌&&◌}
use mathlib.Core.List.{List, [], ◌∷◌, ◌++◌}
use native.Mathlib.Nat.{mod-eq_of_lt, zero-add, zero-sub}
use native.Mathlib.Numerals.{add-one}
use native.Mathlib.Omega.{arith}
use lib.Dec.{ltb}
use lib.ListN.{length, get_or, drop, replicate, length-replicate, get_or-replicate, replicate-append-replicate}
use lib.Pow.{are_bytes}
use borrow.Author.Tests.{lt-ltb}
use Rattle.bitpack.specs.Bits.{bits}
use Rattle.bitpack.specs.Packed.{total, packed, unpacked, fit, bytes_of, number_of}
use Rattle.bitpack.specs.Needs.{Packs}
use Rattle.bitpack.proofs.PackLaws.{packed_lt, length-unpacked, unpacked-packed, packed-unpacked, packed-at, unpacked-at, unpacked-over, unpacked-append}

-- The widths of k bytes.
abbrev pub eights : ℕ → List ℕ
eights k = replicate k 8

-- There are k of them.
pub length-eights : (k : ℕ) → length (eights k) ≡ k
length-eights k = length-replicate k 8

-- Each is eight bits.
pub eights_at : (k i : ℕ) → i < k → get_or (eights k) i 0 ≡ 8
eights_at k i h = get_or-replicate k i 8 0 h

-- k bytes have 8 * k bits.
pub total-eights : (k : ℕ) → total (eights k) ≡ 8 * k
total-eights zero = refl
total-eights (suc k) = let h = total-eights k in omega arith

-- Bytes are values that fit eight bits each.
pub fit-bytes : (bs : List ℕ) → fit (eights (length bs)) bs ≡ are_bytes bs
fit-bytes [] = refl
fit-bytes (b ∷ bs) = ap (λ (t : Bool). ltb b 256 && t) (fit-bytes bs)

-- Numbers below 256 are bytes.
pub all-bytes : (bs : List ℕ) → ((i : ℕ) → get_or bs i 0 < 256) → are_bytes bs ≡ true
all-bytes [] h = refl
all-bytes (b ∷ bs) h = rw (lt-ltb b 256 (h 0)) (all-bytes bs (λ i. h (suc i)))

-- k bytes are k.
pub length-bytes : (k n : ℕ) → length (bytes_of k n) ≡ k
unfolding bytes_of
length-bytes k n = length-unpacked (eights k) n ∙ length-eights k

-- The number of k bytes has 8 * k bits.
pub number_lt : (bs : List ℕ) → are_bytes bs ≡ true → number_of bs < 2 ^ (8 * length bs)
unfolding number_of
number_lt bs e = rw (← total-eights (length bs)) (packed_lt (eights (length bs)) bs (fit-bytes bs ∙ e))

-- A number's k bytes hold its 8 * k low bits.
pub number-bytes : (k n : ℕ) → number_of (bytes_of k n) ≡ n % 2 ^ (8 * k)
unfolding number_of bytes_of
number-bytes k n =
    ap (λ (m : ℕ). packed (eights m) (unpacked (eights k) n)) (length-bytes k n)
    ∙ packed-unpacked (eights k) n
    ∙ ap (λ (x : ℕ). n % 2 ^ x) (total-eights k)

-- The bytes of the number of bytes are those bytes.
pub bytes-number : (bs : List ℕ) → are_bytes bs ≡ true → bytes_of (length bs) (number_of bs) ≡ bs
unfolding bytes_of number_of
bytes-number bs e = unpacked-packed (eights (length bs)) bs (fit-bytes bs ∙ e)

-- The same of each byte.
pub byte_at : (bs : List ℕ) (i : ℕ) → are_bytes bs ≡ true → get_or bs i 0 ≡ get_or (unpacked (eights (length bs)) (number_of bs)) i 0
unfolding number_of
byte_at bs i e = packed-at (eights (length bs)) bs i (fit-bytes bs ∙ e)

-- What was packed into bytes unpacks to the same values.
pub recoded : {ws vs : List ℕ} {k : ℕ} → Packs ws vs k → unpacked ws (number_of (bytes_of k (packed ws vs))) ≡ vs
recoded {ws} {vs} {k} p =
    ap (unpacked ws) (number-bytes k (packed ws vs) ∙ mod-eq_of_lt (rw (← p.whole) (packed_lt ws vs p.fitting)))
    ∙ unpacked-packed ws vs p.fitting

-- What was unpacked from bytes packs to the same bytes.
pub repacked : (ws bs : List ℕ) → total ws ≡ 8 * length bs → are_bytes bs ≡ true
    → bytes_of (length bs) (packed ws (unpacked ws (number_of bs))) ≡ bs
repacked ws bs whole e =
    ap (bytes_of (length bs)) (packed-unpacked ws (number_of bs) ∙ mod-eq_of_lt (rw whole (number_lt bs e))) ∙ bytes-number bs e

-- The bytes of a number in two parts.
pub bytes-append : (a b n : ℕ) → bytes_of (a + b) n ≡ bytes_of a (n / 2 ^ (8 * b)) ++ bytes_of b n
unfolding bytes_of
bytes-append a b n =
    ap (λ (ws : List ℕ). unpacked ws n) (sym (replicate-append-replicate a b 8))
    ∙ unpacked-append (eights a) (eights b) n
    ∙ ap (λ (t : ℕ). unpacked (eights a) (n / 2 ^ t) ++ unpacked (eights b) n) (total-eights b)

-- Numbers with the same low bits have the same bytes.
pub bytes_low : (k m n : ℕ) → m % 2 ^ (8 * k) ≡ n % 2 ^ (8 * k) → bytes_of k m ≡ bytes_of k n
unfolding bytes_of
bytes_low k m n e = sym (over m) ∙ ap (unpacked (eights k)) e ∙ over n
  where
    over : (x : ℕ) → unpacked (eights k) (x % 2 ^ (8 * k)) ≡ unpacked (eights k) x
    over x = rw (zero-add (total (eights k)), total-eights k) at (unpacked-over (eights k) 0 x)

-- The bits from byte i on.
pub total-rest : (k i : ℕ) → total (drop i (eights k)) ≡ 8 * (k - i)
total-rest zero zero = refl
total-rest zero (suc i) = rw (zero-sub (suc i)) refl
total-rest (suc k) zero = let h = total-eights k in omega arith
total-rest (suc k) (suc i) = total-rest k i ∙ ap (λ (x : ℕ). 8 * x) (let e : k - i ≡ suc k - suc i = omega arith in e)

-- Byte i is its eight bits of the number.
pub byte_bits : (bs : List ℕ) (i : ℕ) → are_bytes bs ≡ true → i < length bs → get_or bs i 0 ≡ bits (number_of bs) (8 * (length bs - (i + 1))) 8
byte_bits bs i e h =
    byte_at bs i e
    ∙ unpacked-at (eights (length bs)) i (number_of bs)
    ∙ ap₂ (bits (number_of bs)) (total-rest (length bs) (suc i) ∙ ap (λ (x : ℕ). 8 * (length bs - x)) (sym (add-one i))) (eights_at (length bs) i h)
