-- Laws of hexadecimal digits that a number holds, the first in its low byte. Assumes nothing.
use Prim.Native.Nat.{ℕ, zero, suc, ◌+◌, ◌-◌, ◌*◌, ◌/◌, ◌%◌, ◌^◌, ◌≤◌, ◌<◌}
use mathlib.Core.Path.{◌≡◌, refl, sym, ◌∙◌, ap}
use mathlib.Core.List.{List, ◌∷◌, ◌++◌}
use native.Mathlib.Nat.{zero-add, suc-add, add-mul-mod_self_right, add-mul-div_right, mod-eq_of_lt, div-eq_of_lt, div-one, div-div-eq-div-mul, pow-zero, pow-succ', mod-lt, pow-suc, mul-one, mul_assoc, pow-le-pow_right, one-le-pow, lt_of_lt_of_le, mul-lt-mul_of_pos_right, mul-le-mul_left, add_comm, div-add-mod'}
use native.Mathlib.Omega.{arith}
use lib.ListN.{length, get_or, take, drop}
use lib.Seq.{take_at, drop_at}
use Rattle.text.specs.Numerals.{digit, digits, low_bytes}
use Rattle.text.specs.Place.{put}
use Rattle.text.proofs.PutLaws.{put-append}
use Rattle.text.proofs.DigitLaws.{digit_lt, digits_split, digits_low, length_digits}

-- ---- the low bytes of a number

-- As many as are asked for.
pub length_low : (k v : ℕ) → length (low_bytes k v) ≡ k
unfolding low_bytes
length_low zero v = refl
length_low (suc k) v = ap suc (length_low k (v / 256))

-- The low bytes in two parts.
pub low_split : (j k v : ℕ) → low_bytes (j + k) v ≡ low_bytes j v ++ low_bytes k (v / 256 ^ j)
unfolding low_bytes
low_split zero k v = rw (zero-add, pow-zero, div-one)
low_split (suc j) k v = rw (suc-add, low_bytes, low_split j k (v / 256), div-div-eq-div-mul, pow-succ')

-- Low bytes laid after those below them.
pub put_low : (d e : List ℕ) (at j k v : ℕ) → e ≡ put d at (low_bytes j v) → put e (at + j) (low_bytes k (v / 256 ^ j)) ≡ put d at (low_bytes (j + k) v)
put_low d e at j k v q = rw (q, low_split j k v, put-append, length_low)

-- They are the same whatever stands above them.
low_mod : (j c u : ℕ) → low_bytes j (c + u * 256 ^ j) ≡ low_bytes j c
unfolding low_bytes
low_mod zero c u = refl
low_mod (suc j) c u =
    let shifted : u * 256 ^ suc j ≡ u * 256 ^ j * 256 = rw (pow-suc, mul_assoc) in
    rw (shifted, add-mul-mod_self_right c (u * 256 ^ j) 256, add-mul-div_right c (u * 256 ^ j) {z = 256} (omega arith), low_mod j (c / 256) u)

-- Two numbers side by side: the bytes of both.
pub low_beside : (j k c u : ℕ) → c < 256 ^ j → low_bytes (j + k) (c + u * 256 ^ j) ≡ low_bytes j c ++ low_bytes k u
low_beside j k c u h =
    rw (low_split j k (c + u * 256 ^ j), low_mod j c u, add-mul-div_right c u {z = 256 ^ j} (one-le-pow j 256 (omega arith)), div-eq_of_lt h, zero-add)

-- Digits in the middle of those that a number holds: i before them, and k after them.
pub low_digits : (i j k v x : ℕ) → low_bytes (i + (j + k)) v ≡ digits 16 (i + (j + k)) x → low_bytes j (v / 256 ^ i) ≡ digits 16 j (x / 16 ^ k)
low_digits i j k v x e =
    let front : low_bytes (j + k) (v / 256 ^ i) ≡ digits 16 (j + k) x =
    sym (drop_at (low_bytes i v) (low_bytes (j + k) (v / 256 ^ i)) i (length_low i v))
    ∙ ap (drop i) (sym (low_split i (j + k) v) ∙ e ∙ digits_split 16 (omega arith) i (j + k) x)
    ∙ drop_at (digits 16 i (x / 16 ^ (j + k))) (digits 16 (j + k) (x % 16 ^ (j + k))) i (length_digits 16 i (x / 16 ^ (j + k)))
    ∙ digits_low 16 (omega arith) (j + k) x in
    sym (take_at (low_bytes j (v / 256 ^ i)) (low_bytes k (v / 256 ^ i / 256 ^ j)) j (length_low j (v / 256 ^ i)))
    ∙ ap (take j) (sym (low_split j k (v / 256 ^ i)) ∙ front ∙ digits_split 16 (omega arith) j k x)
    ∙ take_at (digits 16 j (x / 16 ^ k)) (digits 16 k (x % 16 ^ k)) j (length_digits 16 j (x / 16 ^ k))

-- They stay where what stands above them is cut off.
pub low_cut : (j v : ℕ) → low_bytes j (v % 256 ^ j) ≡ low_bytes j v
low_cut j v = sym (low_mod j (v % 256 ^ j) (v / 256 ^ j)) ∙ ap (low_bytes j) (add_comm (v % 256 ^ j) (v / 256 ^ j * 256 ^ j) ∙ div-add-mod' v (256 ^ j))

-- A byte below the others.
pub low_front : (k c u : ℕ) → c < 256 → low_bytes (suc k) (c + u * 256) ≡ c ∷ low_bytes k u
unfolding low_bytes
low_front k c u h = rw (add-mul-mod_self_right c u 256, mod-eq_of_lt h, add-mul-div_right c u {z = 256} (omega arith), div-eq_of_lt h, zero-add)

-- ---- pairs of digits

-- The two digits of a byte in a number.
abbrev pub pair : ℕ → ℕ
pair n = digit (n / 16) + digit (n % 16) * 256

-- It fills two bytes at most.
pub pair_lt : (n : ℕ) → n < 256 → pair n < 65536
pair_lt n h =
    let first = digit_lt (n / 16) (omega arith) in
    let second = digit_lt (n % 16) (omega arith) in
    omega arith

-- A pair below the other bytes.
pub low_pair : (k n u : ℕ) → n < 256 → low_bytes (suc (suc k)) (pair n + u * 65536) ≡ digits 16 2 n ++ low_bytes k u
unfolding digits
low_pair k n u h =
    let high : n / 16 < 16 = omega arith in
    let first = digit_lt (n / 16) high in
    let second = digit_lt (n % 16) (omega arith) in
    let bytes : pair n + u * 65536 ≡ digit (n / 16) + (digit (n % 16) + u * 256) * 256 = omega arith in
    rw (bytes, low_front (suc k) (digit (n / 16)) _ (omega arith), low_front k (digit (n % 16)) u (omega arith), mod-eq_of_lt high)

-- A number holds the last k digits of x; with the pair before them below, it holds two more.
pair-front : (k x u : ℕ) → low_bytes k u ≡ digits 16 k x → low_bytes (suc (suc k)) (pair (x / 16 ^ k % 256) + u * 65536) ≡ digits 16 (suc (suc k)) x
pair-front k x u q =
    let two : suc (suc k) ≡ 2 + k = omega arith in
    low_pair k (x / 16 ^ k % 256) u (mod-lt (x / 16 ^ k) (omega arith))
    ∙ rw (q, digits_low 16 (omega arith) 2 (x / 16 ^ k), ← digits_low 16 (omega arith) k x)
    (sym (ap (λ (n : ℕ). digits 16 n x) two ∙ digits_split 16 (omega arith) 2 k x))

-- The bytes of a pair are the digits.
pub pair-bytes : (n : ℕ) → n < 256 → low_bytes 2 (pair n) ≡ digits 16 2 n
unfolding low_bytes digits
pair-bytes n h = let alone : pair n ≡ pair n + 0 * 65536 = omega arith in ap (λ (v : ℕ). low_bytes 2 v) alone ∙ low_pair 0 n 0 h

-- The last k pairs of digits of x in a number, the first in its low byte.
abbrev pub paired : ℕ → ℕ → ℕ
paired zero x = 0
paired (suc k) x = pair (x / 16 ^ (k * 2) % 256) + paired k x * 65536

-- They fill two bytes each.
pub paired_lt : (k x : ℕ) → paired k x < 65536 ^ k
paired_lt zero x = omega arith
paired_lt (suc k) x =
    let first = pair_lt (x / 16 ^ (k * 2) % 256) (mod-lt (x / 16 ^ (k * 2)) (omega arith)) in
    let rest = paired_lt k x in
    rw pow-suc (omega arith)

-- Its bytes are the digits.
pub paired-bytes : (k x : ℕ) → low_bytes (k * 2) (paired k x) ≡ digits 16 (k * 2) x
unfolding low_bytes digits
paired-bytes zero x = refl
paired-bytes (suc k) x = let two : suc k * 2 ≡ suc (suc (k * 2)) = omega arith in rw two (pair-front (k * 2) x (paired k x) (paired-bytes k x))

-- ---- the table

-- The pair of a byte that is not moved.
pub pair-unmoved : (n r : ℕ) → r ≡ pair n * 65536 ^ 0 → r ≡ pair n
pair-unmoved n r e = rw (e, pow-zero, mul-one)

-- The sum of a word's four pairs, moved to their places, has all its digits.
pub pairs_sum : (x a b c d : ℕ) → x < 2 ^ 32 → a ≡ pair (x / 16777216) * 65536 ^ 0 → b ≡ pair (x / 65536 % 256) * 65536 ^ 1
    → c ≡ pair (x / 256 % 256) * 65536 ^ 2 → d ≡ pair (x % 256) * 65536 ^ 3 → a + b + c + d ≡ paired 4 x
pairs_sum x a b c d h first second third fourth =
    let top : x / 16777216 % 256 ≡ x / 16777216 = mod-eq_of_lt {m = 256} (omega arith) in
    rw (top, div-one) (omega (arith, pair-unmoved _ a first, second, third, fourth))

-- ---- filling it

-- What entry k holds: the pair of its byte, moved by its quarter.
abbrev pub entry : ℕ → ℕ
entry k = pair (k % 256) * 65536 ^ (k / 256)

pub entry_low : (k : ℕ) → k < 256 → entry k ≡ pair k
entry_low k h =
    let low : k % 256 ≡ k = mod-eq_of_lt {m = 256} h in
    let half : k / 256 ≡ 0 = omega arith in
    rw (low, half, pow-zero, mul-one)

pub entry_next : (k : ℕ) → 256 ≤ k → entry k ≡ entry (k - 256) * 65536
entry_next k h =
    let low : k % 256 ≡ (k - 256) % 256 = omega arith in
    let half : k / 256 ≡ suc ((k - 256) / 256) = omega arith in
    rw (low, half, pow-suc) (sym (mul_assoc (pair ((k - 256) % 256)) (65536 ^ ((k - 256) / 256)) 65536))

-- It fits the pairs that it has.
entry_lt : (k : ℕ) → k < 768 → entry k < 65536 ^ 3
entry_lt k h =
    let first = pair_lt (k % 256) (omega arith) in
    let few : k / 256 ≤ 2 = omega arith in
    let most : 65536 ^ (k / 256) ≤ 65536 ^ 2 = pow-le-pow_right {n = 65536} (omega arith) few in
    lt_of_lt_of_le (mul-lt-mul_of_pos_right first (one-le-pow (k / 256) 65536 (omega arith))) (mul-le-mul_left 65536 most)

pub entry_at : (i n : ℕ) → i < 4 → n < 256 → entry (256 * i + n) ≡ pair n * 65536 ^ i
entry_at i n h j =
    let low : (256 * i + n) % 256 ≡ n = omega arith in
    let half : (256 * i + n) / 256 ≡ i = omega arith in
    rw (low, half)

-- An entry has room to be moved, and moved it is the one a quarter later.
module _ (t : List ℕ) (k : ℕ) (h : 256 ≤ k) (j : k < 1024) (filled : get_or t (k - 256) 0 ≡ entry (k - 256)) where
  pub movable : get_or t (k - 256) 0 < 65536 ^ 3
  movable = rw filled (entry_lt (k - 256) (omega arith))

  pub moved_on : (x : ℕ) → x ≡ get_or t (k - 256) 0 * 65536 → x ≡ entry k
  moved_on x e = rw (e, filled, entry_next k h)
