-- Laws of a number's words: made of values, read from bytes. Assumes nothing.
use Prim.Native.Nat.{ℕ, suc, ◌+◌, ◌-◌, ◌*◌, ◌/◌, ◌%◌, ◌^◌, ◌≤◌, ◌<◌}
use mathlib.Core.Path.{◌≡◌, refl, sym, ap, ap₂, ◌∙◌}
use mathlib.Core.Bool.{Bool, true, false}
use mathlib.Core.List.{List}
use native.Mathlib.Nat.{add_comm, zero-add, zero-mul, mod-one, mod-eq_of_lt, lt_of_lt_of_le, div-one}
use native.Mathlib.Numerals.{add-one}
use native.Mathlib.Omega.{arith}
use lib.Dec.{leb}
use lib.ListN.{length, get_or, set, take, drop}
use lib.Seq.{take_at, drop_at}
use lib.Pow.{are_bytes, pow_mono, mod-mod-pow}
use borrow.Author.Tests.{leb-true, leb-false}
use Rattle.text.specs.Place.{put}
use Rattle.bitpack.specs.Bits.{bits}
use Rattle.bitpack.specs.Packed.{total, packed, bytes_of, number_of}
use Rattle.bitpack.specs.Words.{word_of}
use Rattle.bitpack.specs.Needs.{Completes}
use Rattle.bitpack.proofs.BitLaws.{bits_lt, bits_join, bits_high, bits_low, shifted_low}
use Rattle.bitpack.proofs.PackLaws.{narrow_at, total-drop, value-bits}
use Rattle.bitpack.proofs.ByteLaws.{length-bytes, bytes-append, bytes_low, byte_bits}

-- ---- words made

-- The bits held and below them the a bits x, of which `size` remain: b that are held and x, or `size` of x where it has more.
joined : (n lo size a b held x : ℕ) → size ≤ 64 → a < 64 → b ≡ size - a → held % 2 ^ b ≡ bits n (lo + a) b → x ≡ bits n lo a
    → (held * 2 ^ a + x) % 2 ^ 64 % 2 ^ size ≡ bits n lo size
joined n lo size a b held x room small eb eh ex = go (leb a size) refl
  where
    below : x < 2 ^ a
    below = rw ex (bits_lt n lo a)

    go : (t : Bool) → leb a size ≡ t → (held * 2 ^ a + x) % 2 ^ 64 % 2 ^ size ≡ bits n lo size
    go true e =
        let most = leb-true a size e in
        let all : b + a ≡ size = omega arith in
        (rw all at (shifted_low held b a x (omega arith) below))
        ∙ ap₂ (λ (y z : ℕ). y * 2 ^ a + z) eh ex
        ∙ bits_join n lo b a
        ∙ ap (bits n lo) all
    go false e =
        let more = leb-false a size e in
        let all : (a - size) + size ≡ a = omega arith in
        let y = (held * 2 ^ a + x) % 2 ^ 64 in
        let whole : y % 2 ^ a ≡ x = (rw (zero-add a, mod-one held, zero-mul (2 ^ a), zero-add x) at (shifted_low held 0 a x (omega arith) below)) in
        sym (rw all at (mod-mod-pow y (a - size) size))
        ∙ ap (λ (z : ℕ). z % 2 ^ size) (whole ∙ ex)
        ∙ (rw all at (bits_low n lo (a - size) size))

-- The four bytes of word k are those from 4 * k on.
pub word_bytes : (ws vs : List ℕ) (k n : ℕ) → total ws ≡ 8 * n → 4 * k + 4 ≤ n → take 4 (drop (4 * k) (bytes_of n (packed ws vs))) ≡ bytes_of 4 (word_of ws vs k)
unfolding word_of bits
word_bytes ws vs k n whole inside =
    let x = packed ws vs in
    let m = n - (4 * k + 4) in
    let place : total ws - 32 * suc k ≡ 8 * m = omega arith in
    let all : n ≡ 4 * k + (4 + m) = omega arith in
    let parts = ap (λ (j : ℕ). bytes_of j x) all ∙ bytes-append (4 * k) (4 + m) x in
    ap (λ (bs : List ℕ). take 4 (drop (4 * k) bs)) parts
    ∙ ap (take 4) (drop_at (bytes_of (4 * k) _) (bytes_of (4 + m) x) (4 * k) (length-bytes (4 * k) _) ∙ bytes-append 4 m x)
    ∙ take_at (bytes_of 4 _) (bytes_of m x) 4 (length-bytes 4 _)
    ∙ bytes_low 4 (x / 2 ^ (8 * m)) (bits x (8 * m) 32) (sym (bits_low x (8 * m) 0 32))
    ∙ ap (λ (lo : ℕ). bytes_of 4 (bits x lo 32)) (sym place)

-- Four bytes stored one after the other.
pub four_stored : (out : List ℕ) (at x a b c d : ℕ) → a ≡ x / 2 ^ 24 % 2 ^ 8 → b ≡ x / 2 ^ 16 % 2 ^ 8 → c ≡ x / 2 ^ 8 % 2 ^ 8 → d ≡ x % 2 ^ 8
    → set (set (set (set out at a) (at + 1) b) (at + 2) c) (at + 3) d ≡ put out at (bytes_of 4 x)
unfolding put bytes_of bits
four_stored out at x a b c d ha hb hc hd =
    rw (ha, hb, hc, hd, add-one at, let e : at + 2 ≡ suc (suc at) = omega arith in e, let e : at + 3 ≡ suc (suc (suc at)) = omega arith in e, div-one x)

-- What value i completes is its 32 bits of the packed number.
pub word-is : {ws vs : List ℕ} {i held last : ℕ} → Completes ws vs i held last → (w v x : ℕ) → w ≡ get_or ws i 0 → v ≡ get_or vs i 0
    → x ≡ (held * 2 ^ (w - last) + v / 2 ^ last) % 2 ^ 64 → x % 2 ^ 32 ≡ bits (packed ws vs) (last + total (drop (suc i) ws)) 32
word-is {ws} {vs} {i} {held} {last} p w v x hw hv hx =
    let n = packed ws vs in
    let rest = total (drop (suc i) ws) in
    let inside = p.within in
    let next = total-drop ws i p.there in
    let cut : (w - last) + last ≡ w = omega arith in
    let above : total (drop i ws) ≡ last + rest + (w - last) = omega arith in
    let most = narrow_at 40 ws i p.small in
    let value : v ≡ bits n rest ((w - last) + last) = hv ∙ value-bits ws vs i p.fitting ∙ ap (bits n rest) (sym (cut ∙ hw)) in
    let first : v / 2 ^ last ≡ bits n (last + rest) (w - last) =
    ap (λ (y : ℕ). y / 2 ^ last) value ∙ bits_high n rest (w - last) last ∙ ap (λ (lo : ℕ). bits n lo (w - last)) (add_comm rest last) in
    let begins : held % 2 ^ (32 - (w - last)) ≡ bits n (last + rest + (w - last)) (32 - (w - last)) = rw (← above, hw) p.above in
    ap (λ (y : ℕ). y % 2 ^ 32) hx ∙ joined n (last + rest) 32 (w - last) _ held _ (omega arith) (omega arith) refl begins first

-- It is word k where so many bits stand before its end.
pub word-place : (ws vs : List ℕ) (k after : ℕ) → 32 * suc k + after ≡ total ws → bits (packed ws vs) after 32 ≡ word_of ws vs k
unfolding word_of
word-place ws vs k after e = ap (λ (lo : ℕ). bits (packed ws vs) lo 32) (let q : after ≡ total ws - 32 * suc k = omega arith in q)

-- ---- words read

module _ (bs : List ℕ) (e : are_bytes bs ≡ true) where
  -- The bits before byte i, and below them the byte.
  byte_joined : (i len x b : ℕ) → i < length bs → len + 8 ≤ 64 → x ≡ bits (number_of bs) (8 * (length bs - i)) len → b ≡ get_or bs i 0
      → (x * 2 ^ 8 + b) % 2 ^ 64 ≡ bits (number_of bs) (8 * (length bs - (i + 1))) (len + 8)
  byte_joined i len x b h room hx hb =
      let n = number_of bs in
      let lo = 8 * (length bs - (i + 1)) in
      let place : 8 * (length bs - i) ≡ lo + 8 = omega arith in
      let all : x * 2 ^ 8 + b ≡ bits n lo (len + 8) =
      ap₂ (λ (y z : ℕ). y * 2 ^ 8 + z) (hx ∙ ap (λ (t : ℕ). bits n t len) place) (hb ∙ byte_bits bs i e h) ∙ bits_join n lo len 8 in
      ap (λ (y : ℕ). y % 2 ^ 64) all ∙ mod-eq_of_lt (lt_of_lt_of_le (bits_lt n lo (len + 8)) (pow_mono room))

  -- Four bytes are a word.
  pub word_read : (i a b c d two three four : ℕ) → i + 4 ≤ length bs → a ≡ get_or bs i 0 → b ≡ get_or bs (i + 1) 0 → c ≡ get_or bs (i + 2) 0 → d ≡ get_or bs (i + 3) 0
      → two ≡ (a * 2 ^ 8 + b) % 2 ^ 64 → three ≡ (two * 2 ^ 8 + c) % 2 ^ 64 → four ≡ (three * 2 ^ 8 + d) % 2 ^ 64
      → four ≡ bits (number_of bs) (8 * (length bs - (i + 4))) 32
  word_read i a b c d two three four h ha hb hc hd h2 h3 h4 =
      let n = number_of bs in
      let k = length bs in
      let at : (j m len : ℕ) → j ≡ m → bits n (8 * (k - j)) len ≡ bits n (8 * (k - m)) len = λ j m len q. ap (λ (x : ℕ). bits n (8 * (k - x)) len) q in
      let one = ha ∙ byte_bits bs i e (omega arith) in
      let second = h2 ∙ byte_joined (i + 1) 8 a b (omega arith) (omega arith) one hb ∙ at (i + 1 + 1) (i + 2) 16 (omega arith) in
      let third = h3 ∙ byte_joined (i + 2) 16 two c (omega arith) (omega arith) second hc ∙ at (i + 2 + 1) (i + 3) 24 (omega arith) in
      h4 ∙ byte_joined (i + 3) 24 three d (omega arith) (omega arith) third hd ∙ at (i + 3 + 1) (i + 4) 32 (omega arith)
