-- Document 02 (iv), big decimals: which immediates are refused that document 01 alone accepts, and what is then so of every decimal immediate. Assumes nothing.
use Rattle.std.specs.Prelude.{Option, Some, None}
use Prim.Native.Nat.{ℕ, zero, suc, ◌-◌, ◌%◌, ◌^◌}
use mathlib.Core.Path.{◌≡◌, refl, sym, ◌∙◌, ap}
use mathlib.Core.Bool.{Bool, true, false, not, ◌&&◌, and-true, and-not_self, false≢true}
use mathlib.Core.List.{[], ◌∷◌, map}
use mathlib.Core.Logic.{◌↔◌}
use native.Mathlib.Omega.{arith}
use lib.Dec.{ltb, leb}
use lib.ListN.{replicate}
use lib.IntN.{ℤ, pos, negsuc, neg_ℤ, nat_abs}
use lib.Signed.{non_neg}
use mir.Syntax.{w32}
use mir.Val.{to_z}
use borrow.Author.Tests.{le-leb, lt-leb, leb-true, leb-false, ltb-true, ltb-false}
use Rattle.isa.specs.Word.{sign_extended}
use Rattle.isa.proofs.WordLaws.{reads_plain, reads_negative}
use Rattle.source.specs.declared.Number.{Number}
use Rattle.source.specs.declared.Number.TheVariants.{Decimal, Minus, Unsigned}
use Rattle.lines.specs.Ranges.{is_within, is_immediate, modulo}

-- ---- what is refused now

-- The immediates of document 01 alone: "Immediates run from -2048 to 4095".
abbrev pub is_immediate_before : Option Number → Bool
is_immediate_before n = is_within 2048 4095 4095 n

-- "A decimal immediate from 2048 to 4095"
abbrev pub is_big_decimal : Option Number → Bool
is_big_decimal (Some (Decimal v)) = leb 2048 v && leb v 4095
is_big_decimal (Some (Minus v)) = false
is_big_decimal (Some (Unsigned v)) = false
is_big_decimal None = false

-- Both, at their limits.
before : map is_immediate_before (map Some (Decimal 4095 ∷ Decimal 4096 ∷ Minus 2048 ∷ Minus 2049 ∷ Unsigned 4095 ∷ Unsigned 4096 ∷ []))
    ≡ true ∷ false ∷ true ∷ false ∷ true ∷ false ∷ []
before = refl

big : map is_big_decimal (map Some (Decimal 2047 ∷ Decimal 2048 ∷ Decimal 4095 ∷ Decimal 4096 ∷ [])) ≡ false ∷ true ∷ true ∷ false ∷ []
big = refl

-- .. "is now refused", and nothing else that was accepted.
pub big_decimals_refused : (n : Option Number) → is_immediate n ≡ (is_immediate_before n && not (is_big_decimal n))
big_decimals_refused (Some (Decimal v)) = go (leb v 2047) refl
  where
    go : (t : Bool) → leb v 2047 ≡ t → t ≡ (leb v 4095 && not (leb 2048 v && leb v 4095))
    go true e = let small = leb-true v 2047 e in rw (le-leb v 4095 (omega arith), lt-leb 2048 v (omega arith))
    go false e = let big = leb-false v 2047 e in rw (le-leb 2048 v (omega arith), and-not_self (leb v 4095))
big_decimals_refused (Some (Minus v)) = sym (and-true (leb v 2048))
big_decimals_refused (Some (Unsigned v)) = sym (and-true (leb v 4095))
big_decimals_refused None = refl

-- ---- what a register holds

-- What a register holds of an immediate that is this number, read as a signed number.
abbrev pub in_register : Option Number → ℤ
in_register n = to_z w32 (sign_extended (modulo 4096 n))

-- What students met: 4095 was -1, as 0xFFF is.
all_ones : map in_register (map Some (Decimal 4095 ∷ Unsigned 0xFFF ∷ Minus 1 ∷ [])) ≡ replicate 3 (negsuc 0)
all_ones = refl

-- A decimal is an immediate exactly where a register holds the number written, ..
pub decimal_held : (v : ℕ) → (is_immediate (Some (Decimal v)) ≡ true) ↔ (in_register (Some (Decimal v)) ≡ pos v)
decimal_held v = (to, from (ltb i (2 ^ 11)) refl)
  where
    i : ℕ
    i = v % 4096

    to : leb v 2047 ≡ true → to_z w32 (sign_extended i) ≡ pos v
    to e =
        let small = leb-true v 2047 e in
        reads_plain i (omega arith) ∙ ap pos (omega arith)

    from : (t : Bool) → ltb i (2 ^ 11) ≡ t → to_z w32 (sign_extended i) ≡ pos v → leb v 2047 ≡ true
    from true low e =
        let same = ap nat_abs (sym (reads_plain i (ltb-true i _ low)) ∙ e) in
        le-leb v 2047 (omega (arith, ltb-true i _ low, same))
    from false high e = absurd (false≢true (ap non_neg (sym (reads_negative i (ltb-false i _ high) (omega arith)) ∙ e)))

-- .. and so is one with a minus.
pub minus_held : (v : ℕ) → (is_immediate (Some (Minus v)) ≡ true) ↔ (in_register (Some (Minus v)) ≡ neg_ℤ (pos v))
minus_held zero = (λ e. reads_plain 0 (omega arith), λ e. refl)
minus_held (suc k) = (to, from (ltb i (2 ^ 11)) refl)
  where
    i : ℕ
    i = (4096 - suc k % 4096) % 4096

    to : leb (suc k) 2048 ≡ true → to_z w32 (sign_extended i) ≡ negsuc k
    to e =
        let small = leb-true (suc k) 2048 e in
        reads_negative i (omega arith) (omega arith) ∙ ap negsuc (omega arith)

    from : (t : Bool) → ltb i (2 ^ 11) ≡ t → to_z w32 (sign_extended i) ≡ negsuc k → leb (suc k) 2048 ≡ true
    from true low e = absurd (false≢true (sym (ap non_neg (sym (reads_plain i (ltb-true i _ low)) ∙ e))))
    from false high e =
        let same = ap nat_abs (sym (reads_negative i (ltb-false i _ high) (omega arith)) ∙ e) in
        le-leb (suc k) 2048 (omega (arith, ltb-false i _ high, same))
