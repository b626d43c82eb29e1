-- A record and its 40 numbers: each undoes the other, and both are the saved fields without the edition and those that hold 0. Assumes nothing.
use Prim.Native.Nat.{ℕ, zero, suc, ◌-◌}
use mathlib.Core.Path.{◌≡◌, refl, ◌∙◌, ap, subst⁻¹}
use mathlib.Core.Bool.{true, false}
use mathlib.Core.List.{List, [], ◌∷◌, ◌++◌, append-nil}
use native.Mathlib.Omega.{arith}
use lib.ListN.{length, get_or, take, drop, length-append, length-drop, drop_of_length-le}
use lib.Seq.{length-take-le, take_all, take_at, drop_at}
use Rattle.bitpack.specs.Packed.{fit}
use Rattle.isa.specs.Registers.{io_bits}
use Rattle.machine.specs.declared.Record.{Record}
use Rattle.saved.specs.Layout.{widths, fields_of, record_of as field_record}
use Rattle.saved.specs.Sound.{is_sound}
use Rattle.saved.proofs.SoundTest.{sound_yes, sound-lengths, unfit_unsound}
use Rattle.saved.proofs.TripLaws.{fields_again}
use Rattle.simp.specs.Numbers.{record_numbers, record_of, numbers_of}

-- ---- lists of a known length

-- The first k elements, one by one.
abbrev elements : ℕ → List ℕ → List ℕ
elements zero l = []
elements (suc k) l = get_or l 0 0 ∷ elements k (drop 1 l)

-- A list of k elements is these.
element_by_element : (k : ℕ) (l : List ℕ) → length l ≡ k → l ≡ elements k l
element_by_element zero [] e = refl
element_by_element zero (x ∷ l) e = absurd (omega arith)
element_by_element (suc k) [] e = absurd (omega arith)
element_by_element (suc k) (x ∷ l) e = ap (λ (t : List ℕ). x ∷ t) (element_by_element k l (omega arith))

-- What holds of every list that is k elements, one by one, holds of a list of length k.
pub listed : (P : List ℕ → Type 0) (k : ℕ) (l : List ℕ) → length l ≡ k → P (elements k l) → P l
listed P k l e p = subst⁻¹ P (element_by_element k l e) p

-- ---- numbers and fields

-- The saved fields of numbers.
abbrev pub number_fields : List ℕ → List ℕ
number_fields n = 2 ∷ (take 38 n ++ 0 ∷ 0 ∷ (drop 38 n ++ 0 ∷ 0 ∷ []))

-- 38 numbers put among the fields, and then 2 more.
is-put : (x y : List ℕ) → length x ≡ 38
    → take 40 (x ++ 0 ∷ 0 ∷ 0 ∷ 0 ∷ 0 ∷ 0 ∷ []) ++ (y ++ drop 2 (drop 40 (x ++ 0 ∷ 0 ∷ 0 ∷ 0 ∷ 0 ∷ 0 ∷ []))) ≡ x ++ 0 ∷ 0 ∷ (y ++ 0 ∷ 0 ∷ [])
is-put x y e =
    listed
    (λ (l : List ℕ). take 40 (l ++ 0 ∷ 0 ∷ 0 ∷ 0 ∷ 0 ∷ 0 ∷ []) ++ (y ++ drop 2 (drop 40 (l ++ 0 ∷ 0 ∷ 0 ∷ 0 ∷ 0 ∷ 0 ∷ []))) ≡ l ++ 0 ∷ 0 ∷ (y ++ 0 ∷ 0 ∷ []))
    38
    x
    e
    refl

module _ (n : List ℕ) (e : length n ≡ record_numbers) where
  -- The fields as the code puts them: x are the first numbers, y the last two.
  pub put_fields : (x y : List ℕ) → x ≡ take 38 n → y ≡ take (length n - 38) (drop 38 n)
      → 2 ∷ (take 40 (x ++ 0 ∷ 0 ∷ 0 ∷ 0 ∷ 0 ∷ 0 ∷ []) ++ (y ++ drop 2 (drop 40 (x ++ 0 ∷ 0 ∷ 0 ∷ 0 ∷ 0 ∷ 0 ∷ [])))) ≡ number_fields n
  put_fields x y p q =
      let size : length x ≡ 38 = rw p (length-take-le 38 n (omega arith)) in
      let rest : y ≡ drop 38 n = q ∙ take_all (length n - 38) (drop 38 n) (simp length-drop (omega arith)) in
      ap (λ (l : List ℕ). 2 ∷ l) (is-put x y size ∙ rw (p, rest))

  pub fields_length : length (number_fields n) ≡ 45
  fields_length = listed (λ (l : List ℕ). length (number_fields l) ≡ 45) 40 n e refl

  last-zero : get_or (number_fields n) 44 0 ≡ 0
  last-zero = listed (λ (l : List ℕ). get_or (number_fields l) 44 0 ≡ 0) 40 n e refl

  -- The record of the fields is that of the numbers.
  pub same_record : field_record (number_fields n) ≡ record_of n
  unfolding field_record record_of
  same_record = listed (λ (l : List ℕ). field_record (number_fields l) ≡ record_of l) 40 n e refl

  -- Where a field is too wide the record is unsound.
  pub too_wide : fit widths (number_fields n) ≡ false → is_sound (record_of n) ≡ false
  too_wide unfit = rw (← same_record) (unfit_unsound (field_record (number_fields n)) (ap (λ (f : List ℕ). fit widths f) (fields_again (number_fields n) fields_length refl last-zero) ∙ unfit))

  -- Numbers are those of their record.
  pub numbers_again : numbers_of (record_of n) ≡ n
  unfolding record_of numbers_of
  numbers_again = listed (λ (l : List ℕ). numbers_of (record_of l) ≡ l) 40 n e refl

-- ---- records

-- The numbers of a record among its fields.
pub fields_numbers : (r : Record) → length r.regs ≡ 13 → length r.io ≡ 23 → take 38 (drop 1 (fields_of r)) ++ take 2 (drop 41 (fields_of r)) ≡ numbers_of r
unfolding fields_of numbers_of
fields_numbers r e k =
    ap (λ (l : List ℕ). r.core.status ∷ r.core.handler ∷ r.core.pc ∷ r.core.age ∷ r.core.drive.left ∷ r.core.drive.sector ∷ r.core.drive.buffer ∷ l)
    (listed (λ (l : List ℕ). take 31 (l ++ (r.io ++ 0 ∷ [])) ++ take 2 (drop 33 (l ++ (r.io ++ 0 ∷ []))) ≡ l ++ (take 18 r.io ++ take 2 (drop 20 r.io))) 13 r.regs e
    (ap (λ (l : List ℕ). elements 13 r.regs ++ l) (listed (λ (l : List ℕ). take 18 (l ++ 0 ∷ []) ++ take 2 (drop 20 (l ++ 0 ∷ [])) ≡ take 18 l ++ take 2 (drop 20 l)) 23 r.io k refl)))

-- 38 numbers put before the rest, and then 2 more over it.
pub put-numbers : (x d y : List ℕ) → length x ≡ 38 → take 38 (x ++ d) ++ (y ++ drop (length (x ++ d) - 38) (drop 38 (x ++ d))) ≡ x ++ y
put-numbers x d y e =
    let size = length-append x d in
    rw (take_at x d 38 e, drop_at x d 38 e, drop_of_length-le d {i = length (x ++ d) - 38} (omega arith), append-nil y)

-- The I/O registers, where those without bits are 0.
io_again : (io : List ℕ) → length io ≡ 23 → get_or io 18 0 ≡ 0 → get_or io 19 0 ≡ 0 → get_or io 22 0 ≡ 0
    → take 18 io ++ 0 ∷ 0 ∷ (take 2 (drop 20 io) ++ 0 ∷ []) ≡ io
io_again io e a b c =
    listed
    (λ (l : List ℕ). get_or l 18 0 ≡ 0 → get_or l 19 0 ≡ 0 → get_or l 22 0 ≡ 0 → take 18 l ++ 0 ∷ 0 ∷ (take 2 (drop 20 l) ++ 0 ∷ []) ≡ l)
    23
    io
    e
    (λ p q s. rw (p, q, s))
    a
    b
    c

-- The I/O registers of a record's numbers.
io_of_numbers : (regs io : List ℕ) → length regs ≡ 13 → length io ≡ 23
    → take 18 (drop 13 (regs ++ (take 18 io ++ take 2 (drop 20 io)))) ++ 0 ∷ 0 ∷ (drop 31 (regs ++ (take 18 io ++ take 2 (drop 20 io))) ++ 0 ∷ [])
    ≡ take 18 io ++ 0 ∷ 0 ∷ (take 2 (drop 20 io) ++ 0 ∷ [])
io_of_numbers regs io e f =
    listed
    (λ (k : List ℕ). take 18 (drop 13 (regs ++ (take 18 k ++ take 2 (drop 20 k)))) ++ 0 ∷ 0 ∷ (drop 31 (regs ++ (take 18 k ++ take 2 (drop 20 k))) ++ 0 ∷ []) ≡ take 18 k ++ 0 ∷ 0 ∷ (take 2 (drop 20 k) ++ 0 ∷ []))
    23
    io
    f
    (let k = elements 23 io in
    listed
    (λ (l : List ℕ). take 18 (drop 13 (l ++ (take 18 k ++ take 2 (drop 20 k)))) ++ 0 ∷ 0 ∷ (drop 31 (l ++ (take 18 k ++ take 2 (drop 20 k))) ++ 0 ∷ []) ≡ take 18 k ++ 0 ∷ 0 ∷ (take 2 (drop 20 k) ++ 0 ∷ []))
    13
    regs
    e
    refl)

-- A record is that of its numbers, where it has 13 registers and 23 places of I/O registers, and 0 at 18, 19 and 22.
pub record_again : (r : Record) → length r.regs ≡ 13 → length r.io ≡ 23 → get_or r.io 18 0 ≡ 0 → get_or r.io 19 0 ≡ 0 → get_or r.io 22 0 ≡ 0
    → record_of (numbers_of r) ≡ r
unfolding record_of numbers_of
record_again r e f a b c i =
    record {
      core = r.core;
      regs = take_at r.regs (take 18 r.io ++ take 2 (drop 20 r.io)) 13 e i;
      io = (io_of_numbers r.regs r.io e f ∙ io_again r.io f a b c) i;
    }

-- So a sound record is.
pub sound_again : (r : Record) → is_sound r ≡ true → record_of (numbers_of r) ≡ r
unfolding io_bits
sound_again r s =
    let sizes = sound-lengths r s in
    let fits = (sound_yes r s).fitting in
    record_again r sizes.0 sizes.1 (omega (arith, fits 18)) (omega (arith, fits 19)) (omega (arith, fits 22))
