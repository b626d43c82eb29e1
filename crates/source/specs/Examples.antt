-- Bytes, tokens, numbers and names, computed: the decided open points A4 to A11 and B1 to B5 as far as they need no dialect.
use Rattle.std.specs.Prelude.{ℕ, ◌≡◌, refl, true, false, Some, None, List, [], ◌∷◌, ◌++◌, map, replicate}
use Prim.Native.String.{String}
use Rattle.text.specs.Bytes.{bytes}
use Rattle.text.specs.Numerals.{all_digits, value}
use Rattle.source.specs.declared.Number.TheVariants.{Decimal, Minus, Unsigned}
use Rattle.source.specs.Bytes.{is_allowed, are_right_bytes}
use Rattle.source.specs.Tokens.{token, tokens_from, tokens, texts}
use Rattle.source.specs.Numbers.{number}
use Rattle.text.specs.Same.{same}
use Rattle.source.specs.Names.{is_name, is_register, is_definition}
use Rattle.source.specs.Lookup.{is_among, place_of}
use Rattle.source.specs.Shapes.{fits, matches, first_shape}

-- ---- bytes

-- A6: blanks are space, tab and CR; the other bytes that are allowed run from 33 to 126. NUL, VT, FF, DEL and bytes from 128 are not.
allowed : map is_allowed (32 ∷ 9 ∷ 13 ∷ 33 ∷ 126 ∷ 0 ∷ 8 ∷ 10 ∷ 11 ∷ 12 ∷ 14 ∷ 31 ∷ 127 ∷ 128 ∷ 255 ∷ []) ≡ replicate 5 true ++ replicate 10 false
allowed = refl

-- 500 bytes, 501, and the 501st a CR; a byte that is not allowed in a comment.
right-bytes : map are_right_bytes
    (bytes "add # ~" ∷ replicate 500 35 ∷ replicate 501 35 ∷ (replicate 499 35 ++ bytes "\r") ∷ (replicate 500 35 ++ bytes "\r") ∷ (35 ∷ 11 ∷ [])
    ∷ (0xEF ∷ 0xBB ∷ 0xBF ∷ []) ∷ [])
    ≡ true ∷ true ∷ false ∷ true ∷ false ∷ false ∷ false ∷ []
unfolding are_right_bytes
right-bytes = refl

-- ---- tokens

-- Their places; a colon ends a token, a comma is one, `#` ends the line.
places : tokens (bytes "L:sub $t1,$imm1 # L2:")
    ≡ token 0 (bytes "L:") ∷ token 2 (bytes "sub") ∷ token 6 (bytes "$t1") ∷ token 9 (bytes ",") ∷ token 10 (bytes "$imm1") ∷ []
unfolding tokens_from
places = refl

-- Blanks stand around them, in front and behind too; between two tokens one is enough, of any kind.
blanks : map (λ (line : String). texts (tokens (bytes line))) (" a\tb \r c " ∷ "a\rb\tc" ∷ "\t" ∷ [])
    ≡ (bytes "a" ∷ bytes "b" ∷ bytes "c" ∷ []) ∷ (bytes "a" ∷ bytes "b" ∷ bytes "c" ∷ []) ∷ [] ∷ []
unfolding tokens_from
blanks = refl

-- A4: a blank before the colon makes it a token of its own, and so does a second colon.
colons : map (λ (line : String). texts (tokens (bytes line))) ("L:" ∷ "L :" ∷ "L::" ∷ [])
    ≡ (bytes "L:" ∷ []) ∷ (bytes "L" ∷ bytes ":" ∷ []) ∷ (bytes "L:" ∷ bytes ":" ∷ []) ∷ []
unfolding tokens_from
colons = refl

-- ---- numbers

-- A7, A8: digits of either case after `0x`; `-0` is a number; `-` is not among the ten digits; leading zeros up to ten digits (eight), and no octal.
numbers : map (λ (s : String). number (bytes s))
    ("4095" ∷ "-2048" ∷ "-0" ∷ "-1234567890" ∷ "0xFf" ∷ "0xABCDEF09" ∷ "0000000001" ∷ "0x00000001" ∷ "010" ∷ "9999999999" ∷ [])
    ≡ map Some
    (Decimal 4095 ∷ Minus 2048 ∷ Minus 0 ∷ Minus 1234567890 ∷ Unsigned 255 ∷ Unsigned 2882400009 ∷ Decimal 1 ∷ Unsigned 1 ∷ Decimal 10
    ∷ Decimal 9999999999 ∷ [])
unfolding number same all_digits value
numbers = refl

-- A7, A8, A9: no `0X`, no sign but `-` and none before `0x`; no digits, or more than ten (eight).
no_numbers : map (λ (s : String). number (bytes s))
    ("0X1" ∷ "0x" ∷ "0x123456789" ∷ "0xG" ∷ "-0x1" ∷ "+1" ∷ "--1" ∷ "-" ∷ "1-" ∷ "12345678901" ∷ "00000000001" ∷ "-12345678901" ∷ "1a" ∷ "A0" ∷ ""
    ∷ [])
    ≡ replicate 15 None
unfolding number same all_digits value
no_numbers = refl

-- B1: 1 to 32 binary digits, leading zeros among them; ..
binary_numbers : map number
    (bytes "0b1010" ∷ bytes "0b0" ∷ bytes "0b10000000000000000001" ∷ (bytes "0b" ++ replicate 32 49) ∷ (bytes "0b" ++ replicate 31 48 ++ bytes "1") ∷ [])
    ≡ map Some (Unsigned 10 ∷ Unsigned 0 ∷ Unsigned 0x80001 ∷ Unsigned 0xFFFFFFFF ∷ Unsigned 1 ∷ [])
unfolding number same all_digits value
binary_numbers = refl

-- .. no digit, a digit 2, another byte among the digits, 33 digits, whatever their value: no number.
no_binary_numbers : map number
    (bytes "0b" ∷ bytes "0b2" ∷ bytes "0b12" ∷ bytes "0b1_0" ∷ bytes "0bA" ∷ (bytes "0b" ++ replicate 33 49) ∷ (bytes "0b" ++ replicate 33 48) ∷ [])
    ≡ replicate 7 None
unfolding number same all_digits value
no_binary_numbers = refl

-- B2: a small b only. B3: "unsigned", so no sign before it. No other prefix.
binary_prefix : map (λ (s : String). number (bytes s)) ("0B1" ∷ "-0b1" ∷ "-0b0" ∷ "+0b1" ∷ "b1" ∷ "1b1" ∷ "ab1" ∷ "00b1" ∷ []) ≡ replicate 8 None
unfolding number same all_digits value
binary_prefix = refl

-- B5: one token, `0b 1` is two; `b1010` has the form of a label and 0b1010 has not; 0x0b1 is hexadecimal.
binary_token : texts (tokens (bytes "0b1 0b 1")) ≡ bytes "0b1" ∷ bytes "0b" ∷ bytes "1" ∷ []
unfolding tokens_from
binary_token = refl

binary_name : map (λ (s : String). is_name (bytes s)) ("b1010" ∷ "0b1010" ∷ []) ≡ true ∷ false ∷ []
unfolding is_name
binary_name = refl

hexadecimal_stays : number (bytes "0x0b1") ≡ Some (Unsigned 0xB1)
unfolding number same all_digits value
hexadecimal_stays = refl

-- ---- names

-- A10, A13: a letter, then letters or digits; the names of ops, and what looks like a hexadecimal number.
names : map (λ (s : String). is_name (bytes s)) ("L" ∷ "add" ∷ "A0" ∷ "x10" ∷ "9add" ∷ "a_b" ∷ "$t0" ∷ "L:" ∷ "" ∷ [])
    ≡ replicate 4 true ++ replicate 5 false
unfolding is_name
names = refl

-- A9, A10: "50 at most", of a label that is used, of an op, and of a label that is defined.
letters : map is_name (replicate 50 65 ∷ replicate 51 65 ∷ []) ++ map is_definition
    ((replicate 50 65 ++ bytes ":") ∷ (replicate 51 65 ++ bytes ":") ∷ [])
    ≡ true ∷ false ∷ true ∷ false ∷ []
unfolding is_definition is_name
letters = refl

-- A definition is a name and its colon.
definitions : map (λ (s : String). is_definition (bytes s)) ("L:" ∷ "add:" ∷ "L" ∷ ":" ∷ "9:" ∷ "$t0:" ∷ []) ≡ true ∷ true ∷ replicate 4 false
unfolding is_definition is_name
definitions = refl

-- A11: `$` and one or more letters or digits, with no upper length.
registers : map is_register
    (bytes "$t0" ∷ bytes "$0" ∷ bytes "$15" ∷ bytes "$T0" ∷ (bytes "$" ++ replicate 60 97) ∷ bytes "$" ∷ bytes "t0" ∷ bytes "$$" ∷ bytes "$t_0" ∷ [])
    ≡ replicate 5 true ++ replicate 4 false
unfolding is_register
registers = refl

-- A15: "Names are case-sensitive". Of a name that stands twice the first place counts; one that isn't there has the place after the last.
lookup : map (place_of (bytes "l" ∷ bytes "L" ∷ bytes "LL" ∷ bytes "L" ∷ [])) (bytes "l" ∷ bytes "L" ∷ bytes "LL" ∷ bytes "ll" ∷ [])
    ≡ 0 ∷ 1 ∷ 2 ∷ 4 ∷ []
unfolding place_of same
lookup = refl

among : map (is_among (bytes "l" ∷ bytes "LL" ∷ [])) (bytes "l" ∷ bytes "L" ∷ bytes "LL" ∷ bytes "" ∷ []) ≡ true ∷ false ∷ true ∷ false ∷ []
unfolding is_among same
among = refl

-- ---- shapes

-- A small dialect: an empty line, a label, `op register, immediate`, and `.at` with a number. A line that has none of these shapes gets their count.
shapes : List (List ℕ)
shapes = bytes "" ∷ bytes ":" ∷ bytes "o$,i" ∷ bytes ".0" ∷ []

dialect : map (λ (line : String). first_shape (bytes ".at") shapes (texts (tokens (bytes line))))
    ("" ∷ "# c" ∷ "L:" ∷ "set $a, 0x10" ∷ "set $a, L" ∷ ".at 16" ∷ "set $a" ∷ "set $a, $b" ∷ "set a, 1" ∷ ".at L" ∷ ".to 16" ∷ "L: .at 16" ∷ [])
    ≡ 0 ∷ 0 ∷ 1 ∷ 2 ∷ 2 ∷ 3 ∷ replicate 6 4
unfolding shapes tokens_from same number is_name is_register is_definition fits matches first_shape all_digits value
dialect = refl
