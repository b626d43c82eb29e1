-- Words listed, computed, and each refusal.
use Rattle.std.specs.Prelude.{◌≡◌, refl, [], ◌∷◌, map, length, replicate}
use Rattle.text.specs.Bytes.{bytes}
use Rattle.text.specs.Questions.{accepted, refused}
use Rattle.text.specs.Numerals.{decimal, digits, digit_count, digit_count_up_to}
use Rattle.text.specs.Lines.{unlines}
use Rattle.isa.specs.Operations.{operation_name}
use Rattle.isa.specs.Registers.{register_name}
use Rattle.lister.specs.Listing.{signed_decimal, separated, listed_line, listing}
use Rattle.lister.specs.Calls.{first_unknown, list_outcome}

-- "sub with R8, R1, R2, R2 and 2, 3 encodes as 018122002003"; bits above 47 are not read.
sub-line : map listed_line (0x018122002003 ∷ 0xFFFF018122002003 ∷ []) ≡ bytes "sub $t1, $imm1, $imm2, $imm2, 2, 3" ∷ bytes "sub $t1, $imm1, $imm2, $imm2, 2, 3" ∷ []
unfolding listed_line separated signed_decimal decimal digits digit_count digit_count_up_to operation_name register_name
sub-line = refl

-- L1: 0x800 to 0xFFF are negative.
signed_immediates : map signed_decimal (0 ∷ 0x7FF ∷ 0x800 ∷ 0xFFF ∷ []) ≡ bytes "0" ∷ bytes "2047" ∷ bytes "-2048" ∷ bytes "-1" ∷ []
unfolding signed_decimal decimal digits digit_count digit_count_up_to
signed_immediates = refl

-- A whole line: immediates FFF and 800 are negative, 7FF is not.
signed_lines : map listed_line (0x103456FFF800 ∷ 0x110EF9FFE7FF ∷ [])
    ≡ bytes "lw $v0, $a0, $a1, $a2, -1, -2048" ∷ bytes "sw $zero, $sp, $ra, $t2, -2, 2047" ∷ []
unfolding listed_line separated signed_decimal decimal digits digit_count digit_count_up_to operation_name register_name
signed_lines = refl

-- The longest line: an op of four letters, `$zero` four times and -2048 twice. It has 45 bytes, and its LF.
longest-lines : map listed_line (0x120000800800 ∷ 0x150000800800 ∷ [])
    ≡ bytes "reti $zero, $zero, $zero, $zero, -2048, -2048" ∷ bytes "halt $zero, $zero, $zero, $zero, -2048, -2048" ∷ []
unfolding listed_line separated signed_decimal decimal digits digit_count digit_count_up_to operation_name register_name
longest-lines = refl

longest-lengths : length (listed_line 0x120000800800) ∷ length (listing (0x120000800800 ∷ [])) ∷ length (listing (0x120000800800 ∷ 0x150000800800 ∷ [])) ∷ []
    ≡ 45 ∷ 46 ∷ 92 ∷ []
unfolding listing unlines listed_line separated signed_decimal decimal digits digit_count digit_count_up_to operation_name register_name
longest-lengths = refl

-- An LF also after the last line.
two_lines_lem : listing (0x150000000000 ∷ 0 ∷ []) ≡ bytes "halt $zero, $zero, $zero, $zero, 0, 0\nadd $zero, $zero, $zero, $zero, 0, 0\n"
unfolding listing unlines listed_line separated signed_decimal decimal digits digit_count digit_count_up_to operation_name register_name
two_lines_lem = refl

-- L2: an empty part gives an empty text, for which no room is needed.
empty_part : list_outcome [] 0 ≡ accepted 0
unfolding list_outcome first_unknown listing unlines
empty_part = refl

-- L3: 1, then 16 at the first bad word, then 15; a room of exactly the text's length is enough.
refusals : list_outcome (replicate 4097 0) 0 ∷ list_outcome (0 ∷ 0x160000000000 ∷ 0xFF0000000000 ∷ []) 0 ∷ list_outcome (0 ∷ []) 36 ∷ list_outcome (0 ∷ []) 37 ∷ []
    ≡ refused 1 0 ∷ refused 16 1 ∷ refused 15 0 ∷ accepted 37 ∷ []
unfolding list_outcome first_unknown listing unlines listed_line separated signed_decimal decimal digits digit_count digit_count_up_to operation_name register_name
refusals = refl
