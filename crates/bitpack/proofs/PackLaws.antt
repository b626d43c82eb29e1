-- Laws of packed values, over any list of widths. Assumes nothing.
use Prim.Native.Nat.{ℕ, zero, suc, ◌+◌, ◌*◌, ◌/◌, ◌%◌, ◌^◌, ◌≤◌, ◌<◌}
use mathlib.Core.Path.{◌≡◌, refl, sym, ap, ap₂, ◌∙◌}
use mathlib.Core.Bool.{Bool, true, false, ◌&&◌, false≢true}
use mathlib.Core.List.{List, [], ◌∷◌, ◌++◌}
use native.Mathlib.Nat.{mod-eq_of_lt, mod-one, add_assoc, add_comm, not-suc-le-zero, le_of_suc-le-suc, zero-add}
use native.Mathlib.Numerals.{add-one}
use native.Mathlib.Omega.{arith}
use lib.Arith.{digits_lt}
use lib.Dec.{ltb, leb}
use lib.ListN.{length, get_or, drop, drop_of_length-le}
use lib.Seq.{drop-cons}
use lib.Pow.{pow_pos, pow-add, high, low, mod-pow-add, shr-shr}
use borrow.Author.Tests.{ltb-true, lt-ltb, leb-true}
use Rattle.text.proofs.Truth.{and_left, and_right}
use Rattle.bitpack.specs.Bits.{bits}
use Rattle.bitpack.specs.Packed.{total, packed, unpacked, fit}
use Rattle.bitpack.specs.Needs.{narrow}
use Rattle.bitpack.proofs.BitLaws.{bits_lt, bits-rest}

-- ---- values that fit

-- The first value of those that fit is below its power.
fit_head : (w v : ℕ) (ws vs : List ℕ) → fit (w ∷ ws) (v ∷ vs) ≡ true → v < 2 ^ w
fit_head w v ws vs e = ltb-true v (2 ^ w) (and_left (ltb v (2 ^ w)) (fit ws vs) e)

-- The values after it fit too.
fit_tail : (w v : ℕ) (ws vs : List ℕ) → fit (w ∷ ws) (v ∷ vs) ≡ true → fit ws vs ≡ true
fit_tail w v ws vs e = and_right (ltb v (2 ^ w)) (fit ws vs) e

-- Values that fit are as many as the widths.
pub fit_length : (ws vs : List ℕ) → fit ws vs ≡ true → length vs ≡ length ws
fit_length [] [] e = refl
fit_length [] (v ∷ vs) e = absurd (false≢true e)
fit_length (w ∷ ws) [] e = absurd (false≢true e)
fit_length (w ∷ ws) (v ∷ vs) e = ap suc (fit_length ws vs (fit_tail w v ws vs e))

-- Each value that fits is below its power; past the end both are 0.
pub fit_at : (ws vs : List ℕ) (i : ℕ) → fit ws vs ≡ true → get_or vs i 0 < 2 ^ get_or ws i 0
fit_at [] [] i e = pow_pos 0
fit_at [] (v ∷ vs) i e = absurd (false≢true e)
fit_at (w ∷ ws) [] i e = absurd (false≢true e)
fit_at (w ∷ ws) (v ∷ vs) zero e = fit_head w v ws vs e
fit_at (w ∷ ws) (v ∷ vs) (suc i) e = fit_at ws vs i (fit_tail w v ws vs e)

-- Values that are more or fewer than the widths do not fit.
pub fit_other : (ws vs : List ℕ) → (length ws ≡ length vs → ⊥) → fit ws vs ≡ false
fit_other ws vs other = go (fit ws vs) refl
  where
    go : (t : Bool) → fit ws vs ≡ t → fit ws vs ≡ false
    go true e = absurd (other (sym (fit_length ws vs e)))
    go false e = e

module _ (ws vs : List ℕ) (i : ℕ) where
  -- Those from i on fit where value i does and those after it do.
  pub fit_turn : (w : ℕ) (t : Bool) → i < length ws → i < length vs → w ≡ get_or ws i 0 → t ≡ ltb (get_or vs i 0) (2 ^ w)
      → fit (drop i ws) (drop i vs) ≡ (t && fit (drop (i + 1) ws) (drop (i + 1) vs))
  fit_turn w t h k ew et = rw (et, ew, add-one i, drop-cons ws i 0 h, drop-cons vs i 0 k)

  -- Past the end nothing is left to fit.
  pub fit-end : length ws ≤ i → length vs ≤ i → fit (drop i ws) (drop i vs) ≡ true
  fit-end h k = rw (drop_of_length-le ws h, drop_of_length-le vs k)

-- Each width of a narrow list is small; past its end 0 is read.
pub narrow_at : (most : ℕ) (ws : List ℕ) (i : ℕ) → narrow most ws ≡ true → get_or ws i 0 ≤ most
narrow_at most [] i e = omega arith
narrow_at most (w ∷ ws) zero e = leb-true w most (and_left (leb w most) (narrow most ws) e)
narrow_at most (w ∷ ws) (suc i) e = narrow_at most ws i (and_right (leb w most) (narrow most ws) e)

-- ---- packed

-- Values that fit are together a number of as many bits as the widths have.
pub packed_lt : (ws vs : List ℕ) → fit ws vs ≡ true → packed ws vs < 2 ^ total ws
packed_lt [] vs e = pow_pos 0
packed_lt (w ∷ ws) [] e = pow_pos (w + total ws)
packed_lt (w ∷ ws) (v ∷ vs) e =
    rw (pow-add 2 w (total ws)) (digits_lt (fit_head w v ws vs e) (packed_lt ws vs (fit_tail w v ws vs e)))

-- ---- unpacked

-- There is a value for each width.
pub length-unpacked : (ws : List ℕ) (n : ℕ) → length (unpacked ws n) ≡ length ws
length-unpacked [] n = refl
length-unpacked (w ∷ ws) n = ap suc (length-unpacked ws n)

-- Bits above those of the widths do not count.
pub unpacked-over : (ws : List ℕ) (above n : ℕ) → unpacked ws (n % 2 ^ (above + total ws)) ≡ unpacked ws n
unpacked-over [] above n = refl
unpacked-over (w ∷ ws) above n =
    rw (← add_assoc above w (total ws)) (ap₂ ◌∷◌ (bits-rest n above w (total ws)) (unpacked-over ws (above + w) n))

-- What was packed unpacks to the same values.
pub unpacked-packed : (ws vs : List ℕ) → fit ws vs ≡ true → unpacked ws (packed ws vs) ≡ vs
unfolding bits
unpacked-packed [] [] e = refl
unpacked-packed [] (v ∷ vs) e = absurd (false≢true e)
unpacked-packed (w ∷ ws) [] e = absurd (false≢true e)
unpacked-packed (w ∷ ws) (v ∷ vs) e =
    let t = total ws in
    let n = packed (w ∷ ws) (v ∷ vs) in
    let rest = fit_tail w v ws vs e in
    let below = packed_lt ws vs rest in
    let first : bits n t w ≡ v = ap (λ (x : ℕ). x % 2 ^ w) (high v t below) ∙ mod-eq_of_lt (fit_head w v ws vs e) in
    let others : n % 2 ^ (0 + t) ≡ packed ws vs = ap (λ (x : ℕ). n % 2 ^ x) (zero-add t) ∙ low v t below in
    ap₂ ◌∷◌ first (sym (unpacked-over ws 0 n) ∙ ap (unpacked ws) others ∙ unpacked-packed ws vs rest)

-- The same of each value.
pub packed-at : (ws vs : List ℕ) (i : ℕ) → fit ws vs ≡ true → get_or vs i 0 ≡ get_or (unpacked ws (packed ws vs)) i 0
packed-at ws vs i e = ap (λ (l : List ℕ). get_or l i 0) (sym (unpacked-packed ws vs e))

-- What was unpacked packs to the number's low bits.
pub packed-unpacked : (ws : List ℕ) (n : ℕ) → packed ws (unpacked ws n) ≡ n % 2 ^ total ws
unfolding bits
packed-unpacked [] n = sym (mod-one n)
packed-unpacked (w ∷ ws) n =
    ap (λ (x : ℕ). bits n (total ws) w * 2 ^ total ws + x) (packed-unpacked ws n) ∙ sym (mod-pow-add n w (total ws))

-- What is unpacked fits the widths.
pub fit-unpacked : (ws : List ℕ) (n : ℕ) → fit ws (unpacked ws n) ≡ true
fit-unpacked [] n = refl
fit-unpacked (w ∷ ws) n = rw (lt-ltb (bits n (total ws) w) (2 ^ w) (bits_lt n (total ws) w)) (fit-unpacked ws n)

-- Value i is the bits above those of the widths after it.
pub unpacked-at : (ws : List ℕ) (i n : ℕ) → get_or (unpacked ws n) i 0 ≡ bits n (total (drop (suc i) ws)) (get_or ws i 0)
unfolding bits
unpacked-at [] i n = sym (mod-one (n / 2 ^ 0))
unpacked-at (w ∷ ws) zero n = refl
unpacked-at (w ∷ ws) (suc i) n = unpacked-at ws i n

-- Value i of packed ones is its bits of their number.
pub value-bits : (ws vs : List ℕ) (i : ℕ) → fit ws vs ≡ true → get_or vs i 0 ≡ bits (packed ws vs) (total (drop (suc i) ws)) (get_or ws i 0)
value-bits ws vs i e = packed-at ws vs i e ∙ unpacked-at ws i (packed ws vs)

-- The widths from i on are width i and those after it.
pub total-drop : (ws : List ℕ) (i : ℕ) → i < length ws → total (drop i ws) ≡ get_or ws i 0 + total (drop (suc i) ws)
total-drop [] i h = absurd (not-suc-le-zero h)
total-drop (w ∷ ws) zero h = refl
total-drop (w ∷ ws) (suc i) h = total-drop ws i (le_of_suc-le-suc h)

-- ---- widths in two parts

-- Widths in two parts have the bits of both.
total-append : (us ws : List ℕ) → total (us ++ ws) ≡ total us + total ws
total-append [] ws = sym (zero-add (total ws))
total-append (u ∷ us) ws = let h = total-append us ws in omega arith

-- The values of the first part are those of the bits above the second's.
pub unpacked-append : (us ws : List ℕ) (n : ℕ) → unpacked (us ++ ws) n ≡ unpacked us (n / 2 ^ total ws) ++ unpacked ws n
unfolding bits
unpacked-append [] ws n = refl
unpacked-append (u ∷ us) ws n =
    ap₂ ◌∷◌ (ap (λ (x : ℕ). x % 2 ^ u) (ap (λ (t : ℕ). n / 2 ^ t) (total-append us ws ∙ add_comm (total us) (total ws)) ∙ sym (shr-shr n (total ws) (total us)))) (unpacked-append us ws n)
