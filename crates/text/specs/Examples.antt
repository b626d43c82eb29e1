-- The definitions computed on small texts.
use Rattle.std.specs.Prelude.{ℕ, ◌≡◌, refl, true, false, List, [], ◌∷◌, map}
use Rattle.text.specs.Bytes.{bytes}
use Rattle.text.specs.Questions.{Question, accepted, refused, first_no, first_bad}
use Rattle.text.specs.Numerals.{digit_value, digits, all_digits, value, digit_count, digit_count_up_to, decimal, low_bytes}
use Rattle.text.specs.Lines.{lines, unlines}
use Rattle.text.specs.Place.{put}

-- 0x2BF in four hexadecimal digits is `02BF`, and in two, its low ones, `BF`.
four_digits : digits 16 4 0x2BF ≡ bytes "02BF"
unfolding digits
four_digits = refl

two_digits : digits 16 2 0x2BF ≡ bytes "BF"
unfolding digits
two_digits = refl

-- `02bF` are digits and stand for 0x2BF; in base 10 `b` is none.
either_case : value 16 (bytes "02bF") ≡ 0x2BF
unfolding value
either_case = refl

all_hexadecimal : all_digits 16 (bytes "02bF") ≡ true
unfolding all_digits
all_hexadecimal = refl

not_decimal : all_digits 10 (bytes "02bF") ≡ false
unfolding all_digits
not_decimal = refl

-- 0 is `0`, 1024 is `1024`.
zero-decimal : decimal 0 ≡ bytes "0"
unfolding decimal digits digit_count digit_count_up_to
zero-decimal = refl

thousand_decimal : decimal 1024 ≡ bytes "1024"
unfolding decimal digits digit_count digit_count_up_to
thousand_decimal = refl

-- The lowest byte first.
low_bytes_lem : low_bytes 3 0x434241 ≡ bytes "ABC"
unfolding low_bytes
low_bytes_lem = refl

-- `A` LF and `A` are one line each; the empty text is none, an LF alone an empty one.
line_with_lf : lines (bytes "A\n") ≡ (bytes "A") ∷ []
unfolding lines
line_with_lf = refl

line_without_lf : lines (bytes "A") ≡ (bytes "A") ∷ []
unfolding lines
line_without_lf = refl

no_line : lines [] ≡ []
unfolding lines
no_line = refl

empty_line : lines (bytes "\n") ≡ [] ∷ []
unfolding lines
empty_line = refl

two_lines_lem : unlines ((bytes "A") ∷ [] ∷ []) ≡ bytes "A\n\n"
unfolding unlines
two_lines_lem = refl

-- Two bytes put at place 1 of four.
put-at_1 : put (1 ∷ 2 ∷ 3 ∷ 4 ∷ []) 1 (8 ∷ 9 ∷ []) ≡ 1 ∷ 8 ∷ 9 ∷ 4 ∷ []
unfolding put
put-at_1 = refl

-- The first no decides, and the first bad line.
second_question : first_no ((1, true) ∷ (16, false) ∷ (15, false) ∷ []) 0 (accepted 7) ≡ refused 16 0
second_question = refl

-- A question that the empty line gets a no to.
has_bytes : ℕ → List ℕ → List Question
has_bytes i [] = (9, false) ∷ []
has_bytes i (c ∷ l) = (9, true) ∷ []

third_line : first_bad has_bytes 0 (lines (bytes "A\nB\n\n\n")) (accepted 0) ≡ refused 9 3
unfolding first_bad lines has_bytes
third_line = refl

-- The bytes beside the digits are none.
beside : map digit_value (bytes "/09:@AFG`afg") ≡ 16 ∷ 0 ∷ 9 ∷ 16 ∷ 16 ∷ 10 ∷ 15 ∷ 16 ∷ 16 ∷ 10 ∷ 15 ∷ 16 ∷ []
beside = refl
