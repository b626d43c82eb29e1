-- The text of registers. Assumes nothing.
use Prim.Native.Nat.{ℕ, zero, suc, ◌+◌, ◌*◌, ◌≤◌, ◌<◌}
use mathlib.Core.Path.{◌≡◌, refl, ◌∙◌, ap}
use mathlib.Core.List.{List, [], ◌∷◌, ◌++◌, append_assoc}
use native.Mathlib.Nat.{zero-add, suc-add}
use native.Mathlib.Omega.{arith}
use native.Mathlib.Numerals.{add-one}
use lib.ListN.{length, set, get_or, drop, length-append, length-drop, drop_of_length-le}
use lib.Seq.{drop_at, drop-cons}
use Rattle.text.specs.Bytes.{bytes}
use Rattle.text.specs.Numerals.{digits}
use Rattle.text.specs.Lines.{LF}
use Rattle.text.specs.Place.{put}
use Rattle.text.proofs.DigitLaws.{length_digits}
use Rattle.text.proofs.PutLaws.{put_one, put_front, put_all}
use Rattle.trace.specs.LogLines.{field, register_fields, registers_text}
use Rattle.text.proofs.PieceLaws.{more}
use Rattle.trace.proofs.LengthLaws.{length_fields}

-- ---- a text that is written over

-- What is put after a front leaves it as it is.
put_past : (b : ℕ) (d : List ℕ) (at : ℕ) (xs : List ℕ) → put (b ∷ d) (suc at) xs ≡ b ∷ put d at xs
unfolding put
put_past b d at [] = refl
put_past b d at (x ∷ xs) = put_past b (set d at x) (suc at) xs

put-after : (a d : List ℕ) (at : ℕ) (xs : List ℕ) → put (a ++ d) (length a + at) xs ≡ a ++ put d at xs
put-after [] d at xs = rw zero-add
put-after (b ∷ a) d at xs = rw (suc-add, put_past, put-after a d at xs)

-- What is put over a front that is as long takes its place.
put-over : (a b d : List ℕ) → length b ≡ length a → put (a ++ d) 0 b ≡ b ++ d
put-over a b d e = put_front (a ++ d) b (rw (length-append, e) (omega arith)) ∙ rw (e, drop_at a d (length a) refl)

-- ---- one register is changed

-- The digits of x put over those of the register k.
fields_set : (rs t : List ℕ) (k x : ℕ) → k < length rs → put (register_fields rs ++ t) (k * 9 + 1) (digits 16 8 x) ≡ register_fields (set rs k x) ++ t
unfolding register_fields
fields_set [] t k x h = absurd (omega arith)
fields_set (r ∷ rs) t zero x h =
    let rest = register_fields rs ++ t in
    simp append_assoc
    (put-after (bytes " ") (digits 16 8 r ++ rest) 0 (digits 16 8 x) ∙ ap field (put-over (digits 16 8 r) (digits 16 8 x) rest (simp length_digits)))
fields_set (r ∷ rs) t (suc k) x h =
    let size : suc k * 9 + 1 ≡ length (field (digits 16 8 r)) + (k * 9 + 1) = simp length_digits (omega arith) in
    simp append_assoc
    (rw (size, put-after (field (digits 16 8 r)) (register_fields rs ++ t) (k * 9 + 1) (digits 16 8 x), fields_set rs t k x (omega arith)))

-- So the text is changed where a register is.
pub text-set : (rs text after : List ℕ) (k x : ℕ) → k < length rs → text ≡ registers_text rs → after ≡ put text (k * 9 + 1) (digits 16 8 x)
    → after ≡ registers_text (set rs k x)
unfolding registers_text
text-set rs text after k x h p q = rw (q, p) (fields_set rs (LF ∷ []) k x h)

-- ---- register after register

module _ (regs : List ℕ) (n : ℕ) where
  -- The register n was put at a place, and the text of those after it is left.
  pub put_turn : (text after : List ℕ) (at to : ℕ) → n < length regs → after ≡ put text at (field (digits 16 8 (get_or regs n 0))) → to ≡ at + 9
      → put after to (registers_text (drop (n + 1) regs)) ≡ put text at (registers_text (drop n regs))
  unfolding registers_text register_fields
  put_turn text after at to h p q =
      rw (add-one n, drop-cons regs n 0 h, append_assoc)
      (more text after _ at to (field (digits 16 8 (get_or regs n 0))) _ (simp length_digits (omega arith)) p refl)

  -- No register is left, only the LF.
  pub put-end : (text : List ℕ) (at to : ℕ) → length regs ≤ n → to ≡ at → set text to LF ≡ put text at (registers_text (drop n regs))
  unfolding registers_text register_fields
  put-end text at to h q = rw (drop_of_length-le regs h, q, put_one)

-- The text of 13 registers is all of 118 bytes.
pub put_whole : (regs text : List ℕ) → length regs ≡ 16 → length text ≡ 118 → put text 0 (registers_text (drop 3 regs)) ≡ registers_text (drop 3 regs)
unfolding registers_text
put_whole regs text p q = put_all text (registers_text (drop 3 regs)) (simp (length-append, length_fields, length-drop) (omega arith))
