-- The line that is said of a refusal: the file, the line or the word, the number of document 01 or 02, and its question in words.
use Rattle.std.specs.Prelude.{ℕ, Bool, cond, ◌&&◌, ◌||◌, List, [], ◌∷◌, ◌++◌, eqb, leb, ltb, get_or}
use Rattle.text.specs.Bytes.{bytes}
use Rattle.text.specs.Lines.{LF}
use Rattle.text.specs.Numerals.{decimal}

-- What is wrong, for each number: the number is the place in this list.
unfoldable pub sentences : List (List ℕ)
sentences =
    []
    -- "are the lent lengths those above (source up to 262,144 bytes ..)? 1"; document 02 (v): "a length other than 91 or 94 (1)"
    ∷ bytes "the length is wrong (a program has at most 262144 bytes, a saved record has 94, or 91 in edition 1)"
    -- "at most 500 bytes before the LF or the end, all blanks or 33 to 126? 2"
    ∷ bytes "the line has more than 500 bytes, or one that is neither a blank nor a visible ASCII character"
    -- "The line's form? 3"
    ∷ bytes "the line has a wrong form (asm without arguments shows the forms of lines)"
    -- "Known op and registers? 4"
    ∷ bytes "the operation or a register is unknown"
    -- "Numbers in range? 5"; document 02 (iv): "Students write 4095 and get -1 in a register."
    ∷ bytes "a number is out of range (immediates -2048 to 2047, with 0x or 0b to 0xFFF: 4095 as a decimal would be -1, write 0xFFF or -1; .word addresses 0 to 4095, data -2147483648 to 4294967295)"
    -- "Label not defined on an earlier line? 6"
    ∷ bytes "the label is defined on an earlier line too"
    -- "Used labels defined on some line that passes 2 and 3? 7"
    ∷ bytes "a label is used here that no line defines"
    -- "Instruction or label address at most 4095, label among the first 1,024? 8"
    ∷ bytes "there is no room for it (a program has at most 4096 instructions and 1024 labels)"
    -- "Right digits? 9"
    ∷ bytes "the line is no word (12 hexadecimal digits for an instruction, 8 for data and the disk, 2 for the frame; no CR)"
    -- "a word left for this line? 10"
    ∷ bytes "the file has too many lines (most: 4096 words, 16384 of the disk, 65536 pixels, 16384 cycles)"
    -- "(irq2, with its limit: 11)"
    ∷ bytes "the line is no cycle (1 to 13 decimal digits, below 1099511627775)"
    -- "irq2 rising? 12"
    ∷ bytes "the cycles do not rise (each is above the one before)"
    -- "Record sound? 13"
    ∷ bytes "the saved record is not sound (it holds what no machine can hold)"
    -- "an edition that isn't that length's (14)"
    ∷ bytes "the saved record has another edition than its length says (94 bytes: 2; 91 bytes: 1)"
    -- "does the whole text fit? 15"
    ∷ bytes "the text does not fit"
    -- "opcode at most 21? 16"
    ∷ bytes "the opcode names no operation (it is at most 21)"
    -- "a wrong form, digit or checksum, an end record with data or text after it (17)"
    ∷ bytes "the line is no Intel HEX record (wrong form, digit or checksum), or an end record with data or text after it"
    -- "another type or a missing end (18, at the line after the last)"
    ∷ bytes "the record is of another type than 00 (data) and 01 (end), or the end record :00000001FF is missing"
    -- "a byte past the memory or a first address not above the last byte named before it (19, never for a record without bytes)"
    ∷ bytes "the record names a byte past the memory (data 16384 bytes, disk 65536), or one not above the last named before"
    -- "a busy edition 1 (20)"
    ∷ bytes "the saved record has edition 1 and a busy disk (finish the command in the old edition, or start the run again)"
    ∷ []

unfoldable pub sentence : ℕ → List ℕ
unfolding sentences
sentence n = get_or sentences n []

-- The width of the code's table of sentences: none has more bytes.
abbrev pub longest : ℕ
longest = 184

-- The numbers whose place is a line: 2 to 12, and document 02's 17 to 19.
abbrev pub is_of_line : ℕ → Bool
is_of_line number = (leb 2 number && leb number 12) || (leb 17 number && leb number 19)

-- "a place (line from 1, listed word from 0, else 0)": 16 has a word; these have a line where the place is not 0; the others have no place.
abbrev pub has_line : ℕ → ℕ → Bool
has_line number place = is_of_line number && ltb 0 place

-- What is counted, its number, and a colon and a blank after them.
abbrev pub counted : List ℕ → ℕ → List ℕ
counted kind place = kind ++ decimal place ++ bytes ": "

unfoldable pub place_text : ℕ → ℕ → List ℕ
place_text number place =
    cond (eqb number 16) (counted (bytes "word ") place)
    (cond (has_line number place) (counted (bytes "line ") place) [])

-- As `prog.asm: line 3: 7: a label is used here that no line defines`.
unfoldable pub refusal_line : List ℕ → ℕ → ℕ → List ℕ
refusal_line file number place =
    file ++ bytes ": " ++ place_text number place ++ counted [] number ++ sentence number ++ (LF ∷ [])
