-- The log's lines, as the code puts their pieces. Assumes nothing.
use Prim.Native.Char.{code}
use Prim.Native.Nat.{ℕ, ◌+◌, ◌-◌, ◌*◌, ◌/◌, ◌%◌, ◌^◌, ◌≤◌, ◌<◌}
use mathlib.Core.Path.{◌≡◌, refl, sym, ◌∙◌, ap}
use mathlib.Core.List.{List, [], ◌∷◌, ◌++◌, append_assoc}
use native.Mathlib.Omega.{arith}
use lib.ListN.{length, set, length-append}
use borrow.Author.Tests.{lt-ltb, le-ltb}
use Rattle.text.specs.Bytes.{bytes}
use Rattle.text.specs.Numerals.{digit, digits, low_bytes}
use Rattle.text.specs.Lines.{LF}
use Rattle.text.specs.Place.{put}
use Rattle.text.proofs.DigitLaws.{digit_lt, length_digits, digits_split, digits_low}
use Rattle.text.proofs.HexWordLaws.{low_beside, low_digits, low_cut, low_front, low_pair, pair, pair_lt, pair-bytes}
use Rattle.isa.specs.Word.{sign_extended}
use Rattle.isa.specs.Registers.{io_name}
use Rattle.trace.specs.LogLines.{field, register_fields, registers_text, front_t, line_t, line_h, line_ld}
use Rattle.trace.specs.Prefixes.{cycle_prefix}
use Rattle.text.proofs.PieceLaws.{more, after_store}

-- ---- T

-- The letter, and PC and the word in their fields.
abbrev front : ℕ → ℕ → List ℕ
front pc word = bytes "T" ++ field (digits 16 3 pc) ++ field (digits 16 12 word)

-- Its first eight bytes in a number: the pair of PC's first digits and the opcode's, moved to their places, and PC's last digit before a blank.
module _ (pc op a b c : ℕ) (h : op < 256) (p : a ≡ pair (pc / 16 % 256) * 65536) (q : b ≡ pair (pc % 16 * 16) * 65536 ^ 2) (r : c ≡ pair op * 65536 ^ 3) where
  -- The last digit has a 0 after it.
  last : b ≡ (digit (pc % 16) + 12288) * 4294967296
  last =
      let digit_of_lem : pc % 16 * 16 / 16 ≡ pc % 16 = omega arith in
      let none : pc % 16 * 16 % 16 ≡ 0 = omega arith in
      q ∙ rw (digit_of_lem, none) (omega arith)

  front_fits : (a + b < 2 ^ 64) × (a + b + c < 2 ^ 64) × (17592186036140 ≤ a + b + c)
  front_fits =
      let byte = digit_lt (pc % 16) (omega arith) in
      let first = pair_lt (pc / 16 % 256) (omega arith) in
      let code = pair_lt op h in
      (omega (arith, p, last), omega (arith, p, last, r), omega (arith, last))

  front_bytes : low_bytes 8 (a + b + c - 17592186036140) ≡ bytes "T" ++ field (digits 16 3 pc) ++ field (digits 16 2 op)
  unfolding digits
  front_bytes =
      let byte = digit_lt (pc % 16) (omega arith) in
      let whole : a + b + c - 17592186036140 ≡ 84 + (32 + (pair (pc / 16 % 256) + (digit (pc % 16) + (32 + pair op * 256) * 256) * 65536) * 256) * 256 = omega (arith, p, last, r) in
      rw (whole, low_front 7 84 _ (omega arith), low_front 6 32 _ (omega arith), low_pair 4 (pc / 16 % 256) _ (omega arith), low_front 3 (digit (pc % 16)) _ (omega arith), low_front 2 32 (pair op) (omega arith), pair-bytes op h)
      (ap (λ (l : List ℕ). 84 ∷ 32 ∷ (l ++ (digit (pc % 16) ∷ 32 ∷ digits 16 2 op))) (digits_low 16 (omega arith) 2 (pc / 16)))

pub front_held : (pc op a b c : ℕ) → op < 256 → a ≡ pair (pc / 16 % 256) * 65536 ^ 1 → b ≡ pair (pc % 16 * 16) * 65536 ^ 2 → c ≡ pair op * 65536 ^ 3
    → ((a + b < 2 ^ 64) × (a + b + c < 2 ^ 64) × (17592186036140 ≤ a + b + c))
    × (low_bytes 8 (a + b + c - 17592186036140) ≡ bytes "T" ++ field (digits 16 3 pc) ++ field (digits 16 2 op))
front_held pc op a b c h first second third = (front_fits pc op _ _ _ h first second third, front_bytes pc op _ _ _ h first second third)

-- The word, by its two high bytes and the 32 bits below them.
code-digits : (w : ℕ) → digits 16 2 (w / 2 ^ 40 % 256) ++ digits 16 2 (w / 2 ^ 32 % 256) ++ digits 16 8 (w % 2 ^ 32) ≡ digits 16 12 w
code-digits w =
    let first : w / 2 ^ 40 ≡ w / 2 ^ 32 / 256 = omega arith in
    rw (digits_low 16 (omega arith) 2 (w / 2 ^ 40), first)
    (ap (λ (l : List ℕ). l ++ digits 16 8 (w % 2 ^ 32)) (sym (digits_split 16 (omega arith) 2 2 (w / 2 ^ 32)))
    ∙ sym (digits_split 16 (omega arith) 4 8 w))

-- The front, put in three pieces: its first eight bytes, the registers rd and rs, and the last eight digits.
pub instruction_put : (pc w at : ℕ) (d e f g : List ℕ)
    → e ≡ put d at (bytes "T" ++ field (digits 16 3 pc) ++ field (digits 16 2 (w / 2 ^ 40 % 256)))
    → f ≡ put e (at + 8) (digits 16 2 (w / 2 ^ 32 % 256)) → g ≡ put f (at + 10) (digits 16 8 (w % 2 ^ 32))
    → g ≡ put d at (front pc w)
instruction_put pc w at d e f g p q r =
    let first = bytes "T" ++ field (digits 16 3 pc) in
    let op = digits 16 2 (w / 2 ^ 40 % 256) in
    let next = digits 16 2 (w / 2 ^ 32 % 256) in
    let low = digits 16 8 (w % 2 ^ 32) in
    more d f g at (at + 10) (first ++ field op ++ next) low (simp (length-append, length_digits) (omega arith))
    (more d e f at (at + 8) (first ++ field op) next (simp (length-append, length_digits) (omega arith)) p q)
    r
    ∙ ap (put d at) (ap (λ (l : List ℕ). l ++ low) (append_assoc first (field op) next) ∙ append_assoc first (field op ++ next) low ∙ ap (λ (l : List ℕ). first ++ field l) (code-digits w))

-- The eight digits of an immediate: five by its sign before those of its 12 bits. 206966894640 holds 00000, and 301826721350 FFFFF.
module _ (i low : ℕ) (h : i < 2 ^ 12) (e : low_bytes 3 low ≡ digits 16 3 i) where
  -- Five digits, held by a number c, that are those of the number w above the 12 bits.
  signed : (c w x : ℕ) → c < 256 ^ 5 → low_bytes 5 c ≡ digits 16 5 w → x ≡ w * 16 ^ 3 + i → low_bytes 8 (c + low * 256 ^ 5) ≡ digits 16 8 x
  signed c w x fits q xe =
      let high : x / 16 ^ 3 ≡ w = omega arith in
      let rest : x % 16 ^ 3 ≡ i = omega arith in
      low_beside 5 3 c low fits
      ∙ rw (q, e, ← high) (ap (λ (n : ℕ). digits 16 5 (x / 16 ^ 3) ++ digits 16 3 n) (sym rest) ∙ sym (digits_split 16 (omega arith) 5 3 x))

  pub low_immediate : i < 2 ^ 11 → low_bytes 8 (206966894640 + low * 256 ^ 5) ≡ digits 16 8 (sign_extended i)
  unfolding low_bytes digits
  low_immediate k = signed 206966894640 0 (sign_extended i) (omega arith) refl (rw (lt-ltb i (2 ^ 11) k) (omega arith))

  pub high_immediate : 2 ^ 11 ≤ i → low_bytes 8 (301826721350 + low * 256 ^ 5) ≡ digits 16 8 (sign_extended i)
  unfolding low_bytes digits
  high_immediate k = signed 301826721350 1048575 (sign_extended i) (omega arith) refl (rw (le-ltb i (2 ^ 11) k) (omega arith))

-- The digits of a word's immediates stand in its last eight.
module _ (word low : ℕ) (e : low_bytes 8 low ≡ digits 16 8 (word % 2 ^ 32)) where
  pub first-digits : low_bytes 3 (low / 65536 % 16777216) ≡ digits 16 3 (word / 2 ^ 12 % 2 ^ 12)
  first-digits =
      let cut : word % 2 ^ 32 / 16 ^ 3 % 16 ^ 3 ≡ word / 2 ^ 12 % 2 ^ 12 = omega arith in
      low_cut 3 (low / 65536) ∙ low_digits 2 3 3 low (word % 2 ^ 32) e ∙ sym (digits_low 16 (omega arith) 3 (word % 2 ^ 32 / 16 ^ 3)) ∙ ap (digits 16 3) cut

  pub second_digits : low_bytes 3 (low / 1099511627776) ≡ digits 16 3 (word % 2 ^ 12)
  second_digits =
      let cut : word % 2 ^ 32 / 16 ^ 0 % 16 ^ 3 ≡ word % 2 ^ 12 = omega arith in
      low_digits 5 3 0 low (word % 2 ^ 32) e ∙ sym (digits_low 16 (omega arith) 3 (word % 2 ^ 32 / 16 ^ 0)) ∙ ap (digits 16 3) cut

-- Three registers, each in its field.
abbrev three : ℕ → ℕ → ℕ → List ℕ
three a b c = field (digits 16 8 a) ++ field (digits 16 8 b) ++ field (digits 16 8 c)

-- R0 and the space after it are put at once, the digits of the others after them.
pub low_registers-put : (xs ys : List ℕ) (at : ℕ) (d e f g : List ℕ) → length xs ≡ 8
    → e ≡ put d at (bytes " 00000000 ") → f ≡ put e (at + 10) xs → g ≡ put (set f (at + 18) (code " ")) (at + 19) ys
    → g ≡ put d at (field (digits 16 8 0) ++ field xs ++ field ys)
unfolding digits
low_registers-put xs ys at d e f g h p q r =
    more d f g at (at + 18) (field (digits 16 8 0) ++ field xs) _ (omega arith)
    (more d e f at (at + 10) (bytes " 00000000 ") xs (omega arith) p q)
    (after_store f g (at + 18) (at + 19) (code " ") _ (omega arith) r)

-- Three fields after f go with those that follow them.
regroup : (f a b c rs l : List ℕ) → f ++ (a ++ b ++ c) ++ (rs ++ l) ≡ f ++ (a ++ (b ++ (c ++ rs))) ++ l
regroup f a b c rs l = simp append_assoc

-- The whole line: the registers after the first three are there as text.
pub line_t_put : (pc word a b at : ℕ) (text d e f g : List ℕ)
    → e ≡ put d at (front pc word) → f ≡ put e (at + 18) (three 0 a b) → g ≡ put f (at + 45) text
    → g ≡ put d at (front_t pc word a b ++ text)
unfolding front_t
line_t_put pc word a b at text d e f g p q r =
    more d f g at (at + 45) (front pc word ++ three 0 a b) text (simp (length-append, length_digits) (omega arith))
    (more d e f at (at + 18) (front pc word) (three 0 a b) (simp (length-append, length_digits) (omega arith)) p q)
    r

-- It is the line T of R0 to R15.
pub line_t_is : (pc word a b : ℕ) (rs : List ℕ) → front_t pc word a b ++ registers_text rs ≡ line_t pc word (0 ∷ a ∷ b ∷ rs)
unfolding front_t line_t register_fields registers_text
line_t_is pc word a b rs = regroup (front pc word) (field (digits 16 8 0)) (field (digits 16 8 a)) (field (digits 16 8 b)) (register_fields rs) (LF ∷ [])

-- ---- H, L and D

-- An H line, put in three pieces.
pub line_h_put : (c n x at p q : ℕ) (access d e f g : List ℕ) → q ≡ p + 1 + length access
    → ((rest : List ℕ) → 5 ≤ length rest → put e p rest ≡ put d at (cycle_prefix (code "H") c ++ rest))
    → f ≡ put e p (field access) → g ≡ put f q (field (io_name n) ++ (field (digits 16 8 x) ++ (LF ∷ [])))
    → g ≡ put d at (line_h c access n x)
unfolding line_h
line_h_put c n x at p q access d e f g qe first second last =
    let front = cycle_prefix (code "H") c in
    let name = field (io_name n) in
    let value = field (digits 16 8 x) in
    more e f g p q (field access) _ (omega arith) second last
    ∙ first (field access ++ (name ++ (value ++ (LF ∷ [])))) (simp (length-append, length_digits) (omega arith))
    ∙ ap (put d at) (sym (append_assoc front (field access) (name ++ (value ++ (LF ∷ [])))) ∙ sym (append_assoc (front ++ field access) name (value ++ (LF ∷ []))) ∙ sym (append_assoc (front ++ field access ++ name) value (LF ∷ [])))

-- An L or D line, put in two.
pub line_ld_put : (letter c x at p : ℕ) (d e f : List ℕ)
    → ((rest : List ℕ) → 5 ≤ length rest → put e p rest ≡ put d at (cycle_prefix letter c ++ rest))
    → f ≡ put e p (field (digits 16 8 x) ++ (LF ∷ []))
    → f ≡ put d at (line_ld (letter ∷ []) c x)
unfolding line_ld
line_ld_put letter c x at p d e f first last =
    last
    ∙ first (field (digits 16 8 x) ++ (LF ∷ [])) (simp (length-append, length_digits) (omega arith))
    ∙ ap (put d at) (sym (append_assoc (cycle_prefix letter c) (field (digits 16 8 x)) (LF ∷ [])))
