-- Lines and their forms, computed: the decided open points A2 to A15; ranges, and what is stored of a number.
use Rattle.std.specs.Prelude.{ℕ, ◌≡◌, refl, true, false, Some, None, List, [], ◌∷◌, ◌++◌, map, replicate}
use Prim.Native.String.{String}
use Rattle.text.specs.Bytes.{bytes}
use Rattle.text.specs.Numerals.{all_digits, value}
use Rattle.source.specs.Bytes.{are_right_bytes}
use Rattle.source.specs.Tokens.{tokens_from}
use Rattle.source.specs.declared.Number.TheVariants.{Decimal, Minus, Unsigned}
use Rattle.source.specs.Numbers.{number}
use Rattle.text.specs.Same.{same}
use Rattle.source.specs.Names.{is_name, is_register, is_definition}
use Rattle.source.specs.Shapes.{fits, matches, first_shape}
use Rattle.lines.specs.declared.Form.{Form}
use Rattle.lines.specs.declared.Form.TheVariants.{Nothing, Label, Code, Labelled, Word, Wrong}
use Rattle.lines.specs.Line.{shapes, form_of}
use Rattle.lines.specs.Ranges.{is_within, is_immediate, modulo}

unfoldable form_of_bytes : List ℕ → Form
unfolding form_of shapes first_shape matches fits is_name is_register is_definition number same tokens_from are_right_bytes all_digits value
form_of_bytes line = form_of line

unfoldable form : String → Form
unfolding form_of_bytes
form line = form_of_bytes (bytes line)

-- So many letters.
letters : ℕ → List ℕ
letters n = replicate n 97

-- ---- what a line can have

-- "an optional `label:`, an optional instruction, an optional `#` comment; or `.word address data` and a comment"
each-form : map form
    ("" ∷ " \t\r" ∷ "# add" ∷ "L:" ∷ "L: # add" ∷ "sub $t1, $imm1, $imm2, $imm2, 2, 3" ∷ "L: sub $t1, $imm1, $imm2, $imm2, 2, 3 # c" ∷ ".word 1 2"
    ∷ "1" ∷ [])
    ≡ Nothing ∷ Nothing ∷ Nothing ∷ Label ∷ Label ∷ Code ∷ Labelled ∷ Word ∷ Wrong ∷ []
unfolding form
each-form = refl

-- A2: the comment of `.word` is optional.
word_comments : map form (".word 0x100 -1" ∷ ".word 0x100 -1 # c" ∷ []) ≡ replicate 2 Word
unfolding form
word_comments = refl

-- A3: no label before `.word`, and no two labels on a line.
one_label : map form ("L: .word 1 2" ∷ "L: M:" ∷ "L: M: halt $zero, $zero, $zero, $zero, 0, 0" ∷ []) ≡ replicate 3 Wrong
unfolding form
one_label = refl

-- A14: all six operands, and commas between them only.
operands : map form
    ("halt" ∷ "halt $zero, $zero, $zero, $zero, 0" ∷ "halt $zero, $zero, $zero, $zero, 0, 0, 0" ∷ "halt $zero, $zero, $zero, 0, 0"
    ∷ "halt , $zero, $zero, $zero, $zero, 0, 0" ∷ "halt $zero, $zero, $zero, $zero, 0, 0," ∷ "halt $zero,, $zero, $zero, $zero, 0, 0"
    ∷ "halt $zero $zero, $zero, $zero, 0, 0" ∷ ".word 1, 2" ∷ ".word 1" ∷ ".word 1 2 3" ∷ [])
    ≡ replicate 11 Wrong
unfolding form
operands = refl

-- A12: an immediate is a number or a label, without a colon; the fields of `.word` are numbers, the other four operands registers.
operand_kinds : map form
    ("halt $zero, $zero, $zero, $zero, L, -1" ∷ "halt $zero, $zero, $zero, $zero, L:, 0" ∷ "halt $zero, $zero, $zero, $zero, 0, $zero"
    ∷ "halt $zero, $zero, $zero, 0, 0, 0" ∷ "halt zero, $zero, $zero, $zero, 0, 0" ∷ ".word L 1" ∷ ".word 1 L" ∷ ".word $zero 1" ∷ [])
    ≡ Code ∷ replicate 7 Wrong
unfolding form
operand_kinds = refl

-- ---- blanks

-- A4: the colon stands right after the label; no blank is needed after it.
colons : map form ("L:halt $zero, $zero, $zero, $zero, 0, 0" ∷ "L:# c" ∷ "L :" ∷ "L::" ∷ ":" ∷ []) ≡ Labelled ∷ Label ∷ Wrong ∷ Wrong ∷ Wrong ∷ []
unfolding form
colons = refl

-- A5: one blank at least, of any kind, after the op, `.word` and its address; none is needed elsewhere.
few-blanks : map form
    ("halt $zero,$zero,$zero,$zero,0,0#c" ∷ "halt\t$zero,$zero,$zero,$zero,0,0" ∷ "halt\r$zero,$zero,$zero,$zero,0,0" ∷ ".word 1 2#c" ∷ ".word\t1\r2"
    ∷ "halt$zero, $zero, $zero, $zero, 0, 0" ∷ ".word1 2" ∷ ".word 12" ∷ ".word 1#2" ∷ [])
    ≡ Code ∷ Code ∷ Code ∷ Word ∷ Word ∷ Wrong ∷ Wrong ∷ Wrong ∷ Wrong ∷ []
unfolding form
few-blanks = refl

-- They may stand around every token.
many-blanks : map form (" \tL:  halt \t $zero , $zero ,\t$zero, $zero , 0 ,  0 \r" ∷ "  .word  1 \t 2 # c" ∷ []) ≡ Labelled ∷ Word ∷ []
unfolding form
many-blanks = refl

-- A6: CR is a blank, in mid-line too, and ends neither a line nor a comment.
carriage_returns : map form ("L:\rhalt $zero,\r$zero, $zero, $zero, 0, 0\r" ∷ "# c\rhalt" ∷ "halt\r# c" ∷ []) ≡ Labelled ∷ Nothing ∷ Wrong ∷ []
unfolding form
carriage_returns = refl

-- A line that fails question 2 has no form: 501 bytes, CR among them, or a byte that is not allowed, in a comment too.
bad_bytes : map form_of_bytes
    (replicate 500 35 ∷ (replicate 499 35 ++ bytes "\r") ∷ (replicate 500 35 ++ bytes "\r") ∷ replicate 501 32 ∷ (bytes "L:" ++ replicate 498 32)
    ∷ (bytes "L: #" ++ (127 ∷ [])) ∷ (0xEF ∷ 0xBB ∷ 0xBF ∷ bytes "L:") ∷ [])
    ≡ Nothing ∷ Nothing ∷ Wrong ∷ Wrong ∷ Label ∷ Wrong ∷ Wrong ∷ []
unfolding form_of_bytes
bad_bytes = refl

-- ---- numbers

-- A7: `0x` and 1 to 8 digits of either case; no `0X`.
hexadecimals : map form
    (".word 0xaB 0x0123CdEf" ∷ "halt $zero, $zero, $zero, $zero, 0xF, 0xf" ∷ ".word 0X1 1" ∷ ".word 1 0x" ∷ ".word 1 0x123456789" ∷ ".word 1 0xG"
    ∷ "halt $zero, $zero, $zero, $zero, 0X1, 0" ∷ [])
    ≡ Word ∷ Code ∷ replicate 5 Wrong
unfolding form
hexadecimals = refl

-- A8: `-` is the only sign, stands right before a decimal number, and is none of its ten digits; `-0` is a number, as an address too.
signs : map form
    (".word -0 5" ∷ ".word 5 -1234567890" ∷ "halt $zero, $zero, $zero, $zero, -0, -0000000001" ∷ ".word 1 -0x1" ∷ ".word 1 +1" ∷ ".word 1 --1"
    ∷ ".word 1 - 1" ∷ ".word 1 -" ∷ ".word 1 1-" ∷ "halt $zero, $zero, $zero, $zero, - 1, 0" ∷ [])
    ≡ Word ∷ Word ∷ Code ∷ replicate 7 Wrong
unfolding form
signs = refl

-- A9: "A longer number or label is wrong form", whatever its value.
longer_numbers : map form
    (".word 0000000001 4294967296" ∷ ".word 00000000001 1" ∷ ".word 1 12345678901" ∷ ".word 1 -12345678901" ∷ ".word 0x000000001 1"
    ∷ "halt $zero, $zero, $zero, $zero, 00000000000, 0" ∷ "halt $zero, $zero, $zero, $zero, 0, 0x000000000" ∷ [])
    ≡ Word ∷ replicate 6 Wrong
unfolding form
longer_numbers = refl

-- In range: from -1, decimals to 2 and the other forms to 3; what is no number always.
within : map (is_within 1 2 3) (map Some (Decimal 2 ∷ Decimal 3 ∷ Minus 1 ∷ Minus 2 ∷ Unsigned 3 ∷ Unsigned 4 ∷ []) ++ (None ∷ []))
    ≡ true ∷ false ∷ true ∷ false ∷ true ∷ false ∷ true ∷ []
within = refl

-- Immediates: decimals from -2048 to 2047, the other forms to 4095.
immediates : map is_immediate
    (map Some (Decimal 2047 ∷ Decimal 2048 ∷ Decimal 4095 ∷ Minus 2048 ∷ Minus 2049 ∷ Unsigned 2048 ∷ Unsigned 4095 ∷ Unsigned 4096 ∷ []) ++ (None ∷ []))
    ≡ true ∷ false ∷ false ∷ true ∷ false ∷ true ∷ true ∷ false ∷ true ∷ []
immediates = refl

-- "stored modulo 4096", here 16.
remainders : map (modulo 16) (map Some (Decimal 17 ∷ Minus 1 ∷ Minus 16 ∷ Unsigned 18 ∷ []) ++ (None ∷ [])) ≡ 1 ∷ 15 ∷ 0 ∷ 2 ∷ 0 ∷ []
remainders = refl

-- ---- names

-- A9: labels of 50 letters and of 51, defined and used.
long_labels : map form_of_bytes
    ((letters 50 ++ bytes ":")
    ∷ (letters 51 ++ bytes ":")
    ∷ (bytes "halt $zero, $zero, $zero, $zero, " ++ letters 50 ++ bytes ", 0")
    ∷ (bytes "halt $zero, $zero, $zero, $zero, " ++ letters 51 ++ bytes ", 0")
    ∷ (bytes "halt $zero, $zero, $zero, $zero, 0, " ++ letters 51)
    ∷ [])
    ≡ Label ∷ Wrong ∷ Code ∷ Wrong ∷ Wrong ∷ []
unfolding form_of_bytes letters
long_labels = refl

-- A label begins with a letter, and has letters and digits only.
label-bytes : map form
    ("a1:" ∷ "Z9z:" ∷ "1a:" ∷ "_a:" ∷ "a_b:" ∷ "$a:" ∷ ".a:" ∷ "halt $zero, $zero, $zero, $zero, a_b, 0" ∷ "halt $zero, $zero, $zero, $zero, 1a, 0"
    ∷ [])
    ≡ Label ∷ Label ∷ replicate 7 Wrong
unfolding form
label-bytes = refl

-- A10: "An op has a label's form", known or not: 50 letters, 51, capitals, a digit in front; and it doesn't stand alone.
ops : map form_of_bytes
    ((letters 50 ++ bytes " $zero, $zero, $zero, $zero, 0, 0") ∷ (letters 51 ++ bytes " $zero, $zero, $zero, $zero, 0, 0")
    ∷ bytes "ADD $zero, $zero, $zero, $zero, 0, 0" ∷ bytes "9add $zero, $zero, $zero, $zero, 0, 0" ∷ bytes "foo" ∷ [])
    ≡ Code ∷ Wrong ∷ Code ∷ Wrong ∷ Wrong ∷ []
unfolding form_of_bytes letters
ops = refl

-- A11: "a register is `$` and one or more letters or digits", known or not, with no upper length.
registers : map form_of_bytes
    (bytes "halt $0, $15, $T0, $t3, 0, 0" ∷ (bytes "halt $" ++ letters 60 ++ bytes ", $zero, $zero, $zero, 0, 0")
    ∷ bytes "halt $, $zero, $zero, $zero, 0, 0" ∷ bytes "halt $$zero, $zero, $zero, $zero, 0, 0" ∷ bytes "halt $ zero, $zero, $zero, $zero, 0, 0"
    ∷ [])
    ≡ Code ∷ Code ∷ Wrong ∷ Wrong ∷ Wrong ∷ []
unfolding form_of_bytes letters
registers = refl

-- A13: a label may bear the name of an op or of a register without `$`, or look like a hexadecimal number; the colon right after it makes it one.
labels_like_ops : map form ("add:" ∷ "zero:" ∷ "A0:" ∷ "x10:" ∷ "add: add $zero, $zero, $zero, $zero, add, x10" ∷ "add :" ∷ "word:" ∷ ".word:" ∷ [])
    ≡ Label ∷ Label ∷ Label ∷ Label ∷ Labelled ∷ Wrong ∷ Label ∷ Wrong ∷ []
unfolding form
labels_like_ops = refl

-- A15: `.WORD` is neither `.word` nor an op.
capital-word : form ".WORD 1 2" ≡ Wrong
unfolding form
capital-word = refl
