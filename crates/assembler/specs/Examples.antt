-- Texts assembled, computed: what good ones give, and each refusal; the decided open points A1 to A22, B1 to B5 and C1 to C5.
use Rattle.std.specs.Prelude.{ℕ, zero, suc, ◌≡◌, refl, List, [], ◌∷◌, ◌++◌, map, get_or, take, drop, replicate}
use Prim.Native.String.{String}
use Rattle.text.specs.Bytes.{bytes}
use Rattle.text.specs.declared.Outcome.{Outcome}
use Rattle.text.specs.Questions.{accepted, refused, first_no, first_bad}
use Rattle.text.specs.Lines.{lines, unlines}
use Rattle.text.specs.Numerals.{digits, all_digits, value}
use Rattle.isa.specs.Operations.{operation_names}
use Rattle.isa.specs.Registers.{register_names}
use Rattle.source.specs.Bytes.{are_right_bytes}
use Rattle.source.specs.Tokens.{tokens_from}
use Rattle.source.specs.Numbers.{number}
use Rattle.text.specs.Same.{same}
use Rattle.source.specs.Names.{is_name, is_register, is_definition}
use Rattle.source.specs.Shapes.{fits, matches, first_shape}
use Rattle.source.specs.Lookup.{is_among, place_of}
use Rattle.lines.specs.Line.{shapes, form_of}
use Rattle.lines.specs.Asked.{is_known, are_in_range, is_word_in_range}
use Rattle.labels.specs.Text.{code_count, labels, lines_before, value_of}
use Rattle.statements.specs.Questions.{line_questions}
use Rattle.assembler.specs.Questions.{text_outcome, assemble_outcome}
use Rattle.statements.specs.Encoding.{immediate, encoded}
use Rattle.assembler.specs.Memories.{code_of, assembled_image, stored, assembled_data}

-- What a text is told, ..
unfoldable outcome_of : List ℕ → Outcome
unfolding assemble_outcome text_outcome line_questions is_known are_in_range is_word_in_range first_bad lines form_of shapes first_shape matches fits is_name is_register is_definition number same tokens_from are_right_bytes all_digits value code_count labels is_among operation_names register_names
outcome_of source = assemble_outcome source 4096 4096

unfoldable outcome : String → Outcome
unfolding outcome_of
outcome source = outcome_of (bytes source)

-- .. and the image and the data memory that it gives.
unfoldable image_of : List ℕ → List ℕ
unfolding assembled_image code_of encoded immediate value_of lines_before code_count place_of lines form_of shapes first_shape matches fits is_name is_register is_definition number same tokens_from are_right_bytes all_digits value operation_names register_names
image_of source = assembled_image source

unfoldable image : String → List ℕ
unfolding image_of
image source = image_of (bytes source)

unfoldable words : String → List ℕ
unfolding assembled_data stored lines form_of shapes first_shape matches fits is_name is_register is_definition number same tokens_from are_right_bytes all_digits value
words source = assembled_data (bytes source)

-- The word of a text that has one instruction.
unfoldable word : List ℕ → ℕ
unfolding image_of
word source = get_or (image_of source) 0 0

-- A text of several lines.
text : List String → List ℕ
text ls = unlines (map bytes ls)

-- ---- what a text gives

-- "sub with R8, R1, R2, R2 and 2, 3 encodes as 018122002003"; a label used before it is defined: its value is the count of instructions before it.
good : outcome "beq $zero, $zero, $zero, $imm1, L, 0 # go on\nL: sub $t1, $imm1, $imm2, $imm2, 2, 3\n" ≡ accepted 0
unfolding outcome
good = refl

encodes : take 3 (image "beq $zero, $zero, $zero, $imm1, L, 0 # go on\nL: sub $t1, $imm1, $imm2, $imm2, 2, 3\n")
    ≡ 0x090001001000 ∷ 0x018122002003 ∷ 0 ∷ []
unfolding image
encodes = refl

-- A20: the empty text is good, and the last LF may be missing.
no_last-LF : map outcome ("" ∷ "\n" ∷ "\n\n# c" ∷ ".word 4095 1" ∷ "halt $zero, $zero, $zero, $zero, 0, 0" ∷ []) ≡ replicate 5 (accepted 0)
unfolding outcome
no_last-LF = refl

-- A20, A22: "the rest is zero", all 64 bits of a word of the image.
rest_of_image : map image ("" ∷ ".word 4095 1" ∷ "halt $zero, $zero, $zero, $zero, 0, 0" ∷ [])
    ≡ replicate 4096 0 ∷ replicate 4096 0 ∷ (0x150000000000 ∷ replicate 4095 0) ∷ []
unfolding image
rest_of_image = refl

rest_of_data : map words ("" ∷ "halt $zero, $zero, $zero, $zero, 0, 0" ∷ ".word 4095 1" ∷ [])
    ≡ replicate 4096 0 ∷ replicate 4096 0 ∷ (replicate 4095 0 ++ (1 ∷ [])) ∷ []
unfolding words
rest_of_data = refl

-- "Opcodes from 0: add sub mac and or xor sll sra srl beq bne blt bgt ble bge jal lw sw reti in out halt (21)."
operations : map (λ (op : String). word (bytes op ++ bytes " $zero, $zero, $zero, $zero, 0, 0"))
    ("add" ∷ "sub" ∷ "mac" ∷ "and" ∷ "or" ∷ "xor" ∷ "sll" ∷ "sra" ∷ "srl" ∷ "beq" ∷ "bne" ∷ "blt" ∷ "bgt" ∷ "ble" ∷ "bge" ∷ "jal" ∷ "lw" ∷ "sw"
    ∷ "reti" ∷ "in" ∷ "out" ∷ "halt" ∷ [])
    ≡ 0x000000000000 ∷ 0x010000000000 ∷ 0x020000000000 ∷ 0x030000000000 ∷ 0x040000000000 ∷ 0x050000000000 ∷ 0x060000000000 ∷ 0x070000000000
    ∷ 0x080000000000 ∷ 0x090000000000 ∷ 0x0A0000000000 ∷ 0x0B0000000000 ∷ 0x0C0000000000 ∷ 0x0D0000000000 ∷ 0x0E0000000000 ∷ 0x0F0000000000
    ∷ 0x100000000000 ∷ 0x110000000000 ∷ 0x120000000000 ∷ 0x130000000000 ∷ 0x140000000000 ∷ 0x150000000000 ∷ []
unfolding word
operations = refl

-- "$zero $imm1 $imm2 $v0 $a0 $a1 $a2 $t0 $t1 $t2 $s0 $s1 $s2 $gp $sp $ra", at the places of rd, rs, rt and rm.
registers : map (λ (s : String). word (bytes "add " ++ bytes s ++ bytes ", 0, 0"))
    ("$zero, $imm1, $imm2, $v0" ∷ "$a0, $a1, $a2, $t0" ∷ "$t1, $t2, $s0, $s1" ∷ "$s2, $gp, $sp, $ra" ∷ [])
    ≡ 0x000123000000 ∷ 0x004567000000 ∷ 0x0089AB000000 ∷ 0x00CDEF000000 ∷ []
unfolding word
registers = refl

-- "stored modulo 4096": -1 is FFF, -2048 is 800. A8: -0 is 0, and 010 is ten.
immediates : map (λ (s : String). word (bytes "add $zero, $zero, $zero, $zero, " ++ bytes s))
    ("-1, -2048" ∷ "0xFFF, 0xfFf" ∷ "2047, 0x800" ∷ "-0, 010" ∷ [])
    ≡ 0x000000FFF800 ∷ 0x000000FFFFFF ∷ 0x0000007FF800 ∷ 0x00000000000A ∷ []
unfolding word
immediates = refl

-- "data -2^31 to 2^32-1", in 32 bits; A8: `-0` as an address.
memory_words : take 6 (words ".word -0 5\n.word 1 4294967295\n.word 2 -2147483648\n.word 0x3 0xABCDEF09\n.word 0004 -1\n")
    ≡ 5 ∷ 0xFFFFFFFF ∷ 0x80000000 ∷ 0xABCDEF09 ∷ 0xFFFFFFFF ∷ 0 ∷ []
unfolding words
memory_words = refl

-- B4: binary numbers in both immediates, as an address and as data.
binary_immediates : word (bytes "add $zero, $zero, $zero, $zero, 0b1010, 0b111111111111") ≡ 0x00000000AFFF
unfolding word
binary_immediates = refl

binary_words : take 5 (words ".word 0b0 0b11111111111111111111111111111111\n.word 0b11 0b101\n") ≡ 0xFFFFFFFF ∷ 0 ∷ 0 ∷ 5 ∷ 0 ∷ []
unfolding words
binary_words = refl

-- "the later .word of one address wins"
later_wins : take 3 (words ".word 1 5\n.word 0x1 -1\n") ≡ 0 ∷ 0xFFFFFFFF ∷ 0 ∷ []
unfolding words
later_wins = refl

-- A13, A15: labels with the names of an op and of a register; `L` and `l` are two labels. Their values are 0, 1, 2 and 3.
four_labels : List String
four_labels =
    "add: add $zero, $zero, $zero, $zero, add, zero"
    ∷ "zero: add $zero, $zero, $zero, $zero, L, l"
    ∷ "L: add $zero, $zero, $zero, $zero, l, L"
    ∷ "l:"
    ∷ []

four_labels-outcome : outcome_of (text four_labels) ≡ accepted 0
unfolding outcome_of text unlines four_labels
four_labels-outcome = refl

four_labels-words : take 3 (image_of (text four_labels)) ≡ 0x000000000001 ∷ 0x000000002003 ∷ 0x000000003002 ∷ []
unfolding image_of text unlines four_labels
four_labels-words = refl

-- ---- the course paper's examples

-- Its lines without a label; A1: it names a register `$t3` too, which its table has not.
paper_lines : map (λ (line : String). word (bytes line))
    ("add $t1, $t1, $imm1, $zero, 2, 0  # $t1 = $t1 + 2"
    ∷ "add $t1, $imm1, $imm1, $imm1, 2, 0 # $t1 = 2 + 2 + 2 = 6"
    ∷ "sub $t1, $imm1, $imm2, $imm2, 2, 3 # $t1 = 2 - 3 - 3 = -4"
    ∷ [])
    ≡ 0x008810002000 ∷ 0x008111002000 ∷ 0x018122002003 ∷ []
unfolding word
paper_lines = refl

paper_t3 : outcome "# opcode, rd, rs, rt, rm, imm1, imm2\nadd $t3, $t2, $t1, $t0, 0, 0      # $t3 = $t2 + $t1 + $t0\n" ≡ refused 4 2
unfolding outcome
paper_t3 = refl

-- Its program with labels: L1 is 3, L2 is 4, L3 is 6 and L4 is 8.
paper_program : List String
paper_program =
    "bne $zero, $t0, $t1, $imm1, L1, 0      # if ($t0 != $t1) goto L1"
    ∷ "                                         # (reg1 = address of L1)"
    ∷ "add $t2, $t2, $imm1, $zero, 1, 0       # $t2 = $t2 + 1 (reg1 = 1)"
    ∷ "beq $zero, $zero, $zero, $imm1, L2, 0   # jump to L2 (reg1 = address L2)"
    ∷ "L1:"
    ∷ "sub $t2, $t2, $imm1, $zero, 1, 0       # $t2 = $t2 - 1 (reg1 = 1)"
    ∷ "L2:"
    ∷ "add $t1, $zero, $imm1, $zero, L3, 0     # $t1 = address of L3"
    ∷ "beq $zero, $zero, $zero, $t1, 0, 0      # jump to the address specified in t"
    ∷ "L3:"
    ∷ "jal $ra, $zero, $zero, $imm1, L4, 0     # function call L4, save return addr in $ra"
    ∷ "halt $zero, $zero, $zero, $zero, 0, 0   # halt execution"
    ∷ "L4:"
    ∷ "beq $zero, $zero, $zero, $ra, 0, 0      # return from function in address in $ra"
    ∷ []

paper_program-outcome : outcome_of (text paper_program) ≡ accepted 0
unfolding outcome_of text unlines paper_program
paper_program-outcome = refl

paper_program-words : take 10 (image_of (text paper_program))
    ≡ 0x0A0781003000 ∷ 0x009910001000 ∷ 0x090001004000 ∷ 0x019910001000 ∷ 0x008010006000 ∷ 0x090008000000 ∷ 0x0FF001008000 ∷ 0x150000000000
    ∷ 0x09000F000000 ∷ 0 ∷ []
unfolding image_of text unlines paper_program
paper_program-words = refl

-- Its `.word`, both of address 256.
paper_data : take 3 (drop 255 (words ".word 256 1          # set MEM[256] = 1\n.word 0x100 0x1234ABCD # MEM[0x100] = MEM[256] = 0x1234ABCD\n"))
    ≡ 0 ∷ 0x1234ABCD ∷ 0 ∷ []
unfolding words
paper_data = refl

-- ---- refusals of a text

-- A21: question 1, before any line is read: a text of 262,144 bytes, and one more; an image and a data memory of other lengths.
lengths : map (λ n. outcome_of (bytes "halt\n" ++ replicate n 35)) (262139 ∷ 262140 ∷ []) ≡ refused 3 1 ∷ refused 1 0 ∷ []
unfolding outcome_of
lengths = refl

memory-lengths : assemble_outcome (bytes "halt") 4095 4096 ∷ assemble_outcome (bytes "halt") 4096 4095 ∷ assemble_outcome (bytes "halt") 4097 4097 ∷ []
    ≡ replicate 3 (refused 1 0)
unfolding assemble_outcome text_outcome
memory-lengths = refl

-- Each question of a line, and the first bad line.
refusals : map outcome
    ("\n\u{b}\n" ∷ "halt\n" ∷ "foo $zero, $zero, $zero, $zero, 0, 0\n" ∷ ".word 4096 0\n" ∷ "L:\n# c\nL:\n" ∷ "add $zero, $zero, $zero, $zero, M, 0\n"
    ∷ "\nhalt\n\u{b}\n" ∷ "L:\nL:\nhalt" ∷ "\n\nhalt" ∷ [])
    ≡ refused 2 2 ∷ refused 3 1 ∷ refused 4 1 ∷ refused 5 1 ∷ refused 6 3 ∷ refused 7 1 ∷ refused 3 2 ∷ refused 6 2 ∷ refused 3 3 ∷ []
unfolding outcome
refusals = refl

-- Their order on a line: 2 before 3, 3 before 4, 4 before 5, 5 before 6, 6 before 7.
order : map outcome
    ("halt\u{b}\n" ∷ "foo\n" ∷ "foo $zero, $zero, $zero, $zero, 9999, 0\n" ∷ "L:\nL: add $zero, $zero, $zero, $zero, 4096, 0\n"
    ∷ "L:\nL: add $zero, $zero, $zero, $zero, M, 0\n" ∷ [])
    ≡ refused 2 1 ∷ refused 3 1 ∷ refused 4 1 ∷ refused 5 2 ∷ refused 6 2 ∷ []
unfolding outcome
order = refl

-- 2: 500 bytes before the LF or the end, and 501 (A20: the LF is not among them); A6: CR is.
bytes_of_a_line : map outcome_of
    ((replicate 500 35 ++ bytes "\n") ∷ replicate 500 35 ∷ (replicate 499 35 ++ bytes "\r\n") ∷ (replicate 501 35 ++ bytes "\n") ∷ replicate 501 35
    ∷ (replicate 500 35 ++ bytes "\r\n") ∷ (0xEF ∷ 0xBB ∷ 0xBF ∷ []) ∷ [])
    ≡ accepted 0 ∷ accepted 0 ∷ accepted 0 ∷ refused 2 1 ∷ refused 2 1 ∷ refused 2 1 ∷ refused 2 1 ∷ []
unfolding outcome_of
bytes_of_a_line = refl

-- 4 and 3 of ops. A10, A15: an unknown one of 50 letters is 4, of 51 letters 3; `ADD` is 4, `9add` and `.WORD` are 3.
unknown_ops : map (λ (op : List ℕ). outcome_of (op ++ bytes " $zero, $zero, $zero, $zero, 0, 0\n"))
    (replicate 50 97 ∷ replicate 51 97 ∷ bytes "ADD" ∷ bytes "adds" ∷ bytes "9add" ∷ bytes ".WORD" ∷ [])
    ≡ refused 4 1 ∷ refused 3 1 ∷ refused 4 1 ∷ refused 4 1 ∷ refused 3 1 ∷ refused 3 1 ∷ []
unfolding outcome_of
unknown_ops = refl

-- 4 of registers, at each place. A1: `$t3`; A11: `$0`, `$15`, `$T0`, `$` with 60 letters; `$` alone is 3. A16: 4 also where a number is out of range.
unknown_registers : map (λ (s : List ℕ). outcome_of (bytes "add " ++ s ++ bytes "\n"))
    (bytes "$t3, $zero, $zero, $zero, 0, 0" ∷ bytes "$zero, $0, $zero, $zero, 0, 0" ∷ bytes "$zero, $zero, $15, $zero, 0, 0"
    ∷ bytes "$zero, $zero, $zero, $T0, 0, 0" ∷ (bytes "$" ++ replicate 60 97 ++ bytes ", $zero, $zero, $zero, 0, 0")
    ∷ bytes "$zero, $zero, $zero, $t3, 4096, 0" ∷ bytes "$t3, $zero, $zero, $zero, 0, -2049" ∷ bytes "$, $zero, $zero, $zero, 0, 0" ∷ [])
    ≡ replicate 7 (refused 4 1) ++ (refused 3 1 ∷ [])
unfolding outcome_of
unknown_registers = refl

-- 5: "Immediates run from -2048 to 4095", decimals to 2047. A16: 0xFFFFF800 is not -2048. A9: ten digits are 5, eleven 3.
ranges : map (λ (s : String). outcome_of (bytes "add $zero, $zero, $zero, $zero, " ++ bytes s))
    ("-2048, 2047" ∷ "2047, -2048" ∷ "0xFFF, 0x0" ∷ "-2049, 0" ∷ "0, -2049" ∷ "4096, 0" ∷ "0, 4096" ∷ "0x1000, 0" ∷ "0xFFFFF800, 0" ∷ "9999999999, 0"
    ∷ "99999999999, 0" ∷ [])
    ≡ replicate 3 (accepted 0) ++ replicate 7 (refused 5 1) ++ (refused 3 1 ∷ [])
unfolding outcome_of
ranges = refl

-- 5: document 02 (iv), "A decimal immediate from 2048 to 4095 is now refused". C1: with leading zeros too. C3: as a jump's target, and where nothing reads it.
big_decimals : map outcome
    ("add $zero, $zero, $zero, $zero, 2048, 0" ∷ "add $zero, $zero, $zero, $zero, 0, 2048" ∷ "add $zero, $zero, $zero, $zero, 4095, 0"
    ∷ "add $zero, $zero, $zero, $zero, 0, 4095" ∷ "add $zero, $zero, $zero, $zero, 0000002048, 0" ∷ "beq $zero, $zero, $zero, $imm1, 3000, 0"
    ∷ "halt $zero, $zero, $zero, $zero, 0, 3000" ∷ [])
    ≡ replicate 7 (refused 5 1)
unfolding outcome
big_decimals = refl

-- C1: decimals from -2048 to 2047 stay. "Hexadecimal, binary and labels keep the wider range." C2: address and data of `.word` keep theirs.
not_too_big : map outcome
    ("add $zero, $zero, $zero, $zero, 0000002047, -2048" ∷ "add $zero, $zero, $zero, $zero, -0, -1" ∷ "add $zero, $zero, $zero, $zero, 0x800, 0xFFF"
    ∷ "add $zero, $zero, $zero, $zero, 0b100000000000, 0b111111111111" ∷ ".word 2048 3000" ∷ ".word 4095 4095" ∷ [])
    ≡ replicate 6 (accepted 0)
unfolding outcome
not_too_big = refl

-- C5: 4 comes before it, 6 and 7 after it (8 too: `no_address`); a label that is defined on such a line counts for 7.
big_decimals_in_order : map outcome
    ("foo $zero, $zero, $zero, $zero, 4095, 0\n" ∷ "L:\nL: add $zero, $zero, $zero, $zero, 4095, 0\n" ∷ "add $zero, $zero, $zero, $zero, 4095, M\n"
    ∷ "add $zero, $zero, $zero, $zero, L, 0\nL: add $zero, $zero, $zero, $zero, 4095, 0\n" ∷ [])
    ≡ refused 4 1 ∷ refused 5 2 ∷ refused 5 1 ∷ refused 5 2 ∷ []
unfolding outcome
big_decimals_in_order = refl

-- 5: ".word addresses 0 to 4095, data -2^31 to 2^32-1".
word-ranges : map outcome
    (".word 4095 4294967295" ∷ ".word 0xFFF 0xFFFFFFFF" ∷ ".word 0 -2147483648" ∷ ".word -0 5" ∷ ".word 4096 0" ∷ ".word 0x1000 0" ∷ ".word -1 0"
    ∷ ".word 0 4294967296" ∷ ".word 0 -2147483649" ∷ [])
    ≡ replicate 4 (accepted 0) ++ replicate 5 (refused 5 1)
unfolding outcome
word-ranges = refl

-- B4: "with the same ranges", at each of the four places. B3: "unsigned", 32 ones are no -1 as an immediate.
binary_ranges : map outcome
    ("add $zero, $zero, $zero, $zero, 0b111111111111, 0b0" ∷ ".word 0b111111111111 0b11111111111111111111111111111111"
    ∷ "add $zero, $zero, $zero, $zero, 0b1000000000000, 0" ∷ "add $zero, $zero, $zero, $zero, 0, 0b1000000000000"
    ∷ "add $zero, $zero, $zero, $zero, 0b11111111111111111111111111111111, 0" ∷ ".word 0b1000000000000 0" ∷ [])
    ≡ replicate 2 (accepted 0) ++ replicate 4 (refused 5 1)
unfolding outcome
binary_ranges = refl

-- B1, B2, B3, B5: what is no binary number is wrong form, never out of range; `b1010` stays a label.
binary_forms : map (λ (s : String). outcome_of (bytes "b1010: add $zero, $zero, $zero, $zero, " ++ bytes s ++ bytes ", 0"))
    ("0b1010" ∷ "b1010" ∷ "0b2" ∷ "0b" ∷ "0B1" ∷ "-0b1" ∷ "0b 1" ∷ "0b000000000000000000000000000000000" ∷ [])
    ≡ replicate 2 (accepted 0) ++ replicate 6 (refused 3 1)
unfolding outcome_of
binary_forms = refl

-- 6: A15, "Names are case-sensitive".
defined-before : map outcome ("L:\nl:\n" ∷ "L:\nl:\nL: halt $zero, $zero, $zero, $zero, 0, 0\n" ∷ []) ≡ accepted 0 ∷ refused 6 3 ∷ []
unfolding outcome
defined-before = refl

-- 7: A17, a label may be defined on the same line, on a later one, on one that fails 4, 5 or 7; ..
defined_somewhere : map outcome
    ("L: add $zero, $zero, $zero, $zero, L, 0\n"
    ∷ "add $zero, $zero, $zero, $zero, 0, L\nL:\n"
    ∷ "add $zero, $zero, $zero, $zero, L, 0\nL: foo $zero, $zero, $zero, $zero, 0, 0\n"
    ∷ "add $zero, $zero, $zero, $zero, L, 0\nL: add $zero, $zero, $zero, $zero, 4096, 0\n"
    ∷ "add $zero, $zero, $zero, $zero, L, 0\nL: add $zero, $zero, $zero, $zero, M, 0\n"
    ∷ [])
    ≡ accepted 0 ∷ accepted 0 ∷ refused 4 2 ∷ refused 5 2 ∷ refused 7 2 ∷ []
unfolding outcome
defined_somewhere = refl

-- .. not on a line of wrong form or with a bad byte, even in its comment; a label of the other case is another (A15).
defined_nowhere : map outcome
    ("add $zero, $zero, $zero, $zero, L, 0\nL: 1\n" ∷ "add $zero, $zero, $zero, $zero, L, 0\nL: .word 1 2\n"
    ∷ "add $zero, $zero, $zero, $zero, L, 0\nL: # \u{b}\n" ∷ "add $zero, $zero, $zero, $zero, L, 0\n# L:\n"
    ∷ "L: add $zero, $zero, $zero, $zero, 0, l\n" ∷ [])
    ≡ replicate 5 (refused 7 1)
unfolding outcome
defined_nowhere = refl

-- ---- question 8, asked of one line of a long text

-- What the last line of a text is told, after these lines; ..
unfoldable asked : (before : List (List ℕ)) → String → Outcome
unfolding line_questions is_known are_in_range is_word_in_range form_of shapes first_shape matches fits is_name is_register is_definition number same tokens_from are_right_bytes all_digits value code_count labels is_among operation_names register_names
asked before line = first_no (line_questions (before ++ (bytes line ∷ [])) before (bytes line)) 0 (accepted 0)

-- .. and the first, before these.
unfoldable asked_first : (after : List (List ℕ)) → String → Outcome
unfolding line_questions is_known are_in_range is_word_in_range form_of shapes first_shape matches fits is_name is_register is_definition number same tokens_from are_right_bytes all_digits value code_count labels is_among operation_names register_names
asked_first after line = first_no (line_questions (bytes line ∷ after) [] (bytes line)) 0 (accepted 0)

-- So many instructions, and so many labels: `L1023:` and so on, down to `L0000:`.
instructions : ℕ → List (List ℕ)
instructions n = replicate n (bytes "halt $zero, $zero, $zero, $zero, 0, 0")

numbered_labels : ℕ → List (List ℕ)
numbered_labels zero = []
numbered_labels (suc n) = (bytes "L" ++ digits 10 4 n ++ bytes ":") ∷ numbered_labels n

-- "Instruction or label address at most 4095": after 4,095 instructions, ..
last-address : map (asked (instructions 4095)) ("halt $zero, $zero, $zero, $zero, 0, 0" ∷ "L:" ∷ "L: halt $zero, $zero, $zero, $zero, 0, 0" ∷ [])
    ≡ replicate 3 (accepted 0)
unfolding asked instructions
last-address = refl

-- .. and after 4,096. A19: empty lines, comments and `.word` may follow. 3, 4, 5 (C5) and 7 come before 8.
no_address : map (asked (instructions 4096))
    ("halt $zero, $zero, $zero, $zero, 0, 0" ∷ "L:" ∷ "L: halt $zero, $zero, $zero, $zero, 0, 0" ∷ "" ∷ "# c" ∷ ".word 0 1" ∷ "halt"
    ∷ "foo $zero, $zero, $zero, $zero, 0, 0" ∷ "halt $zero, $zero, $zero, $zero, 4095, 0" ∷ "halt $zero, $zero, $zero, $zero, L, 0" ∷ [])
    ≡ refused 8 0 ∷ refused 8 0 ∷ refused 8 0 ∷ accepted 0 ∷ accepted 0 ∷ accepted 0 ∷ refused 3 0 ∷ refused 4 0 ∷ refused 5 0 ∷ refused 7 0 ∷ []
unfolding asked instructions
no_address = refl

-- "label among the first 1,024": after 1,023 labels, ..
last-label : asked (numbered_labels 1023) "M:" ≡ accepted 0
unfolding asked numbered_labels digits
last-label = refl

-- .. and after 1,024. A19: a repeated one is 6 there. 4 and 7 come before 8; an instruction without a label may follow.
no_label : map (asked (numbered_labels 1024))
    ("M:" ∷ "M: halt $zero, $zero, $zero, $zero, 0, 0" ∷ "L0000:" ∷ "L1023:" ∷ "M: foo $zero, $zero, $zero, $zero, 0, 0"
    ∷ "M: halt $zero, $zero, $zero, $zero, N, 0" ∷ "halt $zero, $zero, $zero, $zero, 0, 0" ∷ [])
    ≡ refused 8 0 ∷ refused 8 0 ∷ refused 6 0 ∷ refused 6 0 ∷ refused 4 0 ∷ refused 7 0 ∷ accepted 0 ∷ []
unfolding asked numbered_labels digits
no_label = refl

-- 6 before 8, after 4,096 instructions too.
repeated : asked (bytes "L:" ∷ instructions 4096) "L:" ≡ refused 6 0
unfolding asked instructions
repeated = refl

-- A17, A18: of a label that is used 8 isn't asked, be it the 1,025th or at address 4096.
used_1025th : asked_first (numbered_labels 1024 ++ (bytes "M:" ∷ [])) "halt $zero, $zero, $zero, $zero, M, 0" ≡ accepted 0
unfolding asked_first numbered_labels digits
used_1025th = refl

used_at_4096 : asked_first (instructions 4095 ++ (bytes "M:" ∷ [])) "halt $zero, $zero, $zero, $zero, M, 0" ≡ accepted 0
unfolding asked_first instructions
used_at_4096 = refl

-- C4: 5 is asked of no label: this one is at 2048.
used_at_2048 : asked_first (instructions 2047 ++ (bytes "M:" ∷ [])) "halt $zero, $zero, $zero, $zero, M, 0" ≡ accepted 0
unfolding asked_first instructions
used_at_2048 = refl
