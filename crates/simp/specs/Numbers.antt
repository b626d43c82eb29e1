-- A record in the numbers of the C face: its fields in the saved order, "status 3, flag 1, PC 12, age 40, left 11, R3 to R15, then I/O 0 to 17, 20, 21", and "after
-- `left` come that sector (7 bits) and buffer (12)".
use Rattle.std.specs.Prelude.{ℕ, ◌≡◌, refl, Bool, false, ◌⊎◌, List, [], ◌∷◌, ◌++◌, eqb, get_or, take, drop, replicate}
use Rattle.devices.specs.Bus.{drive_of}
use Rattle.machine.specs.declared.Record.{Record}
use Rattle.saved.specs.Sound.{is_sound}
use Rattle.saved.specs.Calls.{fresh_record}

-- How many numbers a record is.
abbrev pub record_numbers : ℕ
record_numbers = 40

abbrev pub is_record_length : ℕ → Bool
is_record_length n = eqb n record_numbers

-- The record of numbers. None is cut, so a number that is too wide for its field makes the record unsound. I/O 18 and 19 are no registers, and
-- monitorcmd, 22, "always holds 0".
unfoldable pub record_of : List ℕ → Record
record_of n =
    record {
      core = record { status = get_or n 0 0; handler = get_or n 1 0; pc = get_or n 2 0; age = get_or n 3 0; drive = drive_of (get_or n 4 0) (get_or n 5 0) (get_or n 6 0) };
      regs = take 13 (drop 7 n);
      io = take 18 (drop 20 n) ++ 0 ∷ 0 ∷ (drop 38 n ++ 0 ∷ []);
    }

-- The numbers of a record.
unfoldable pub numbers_of : Record → List ℕ
numbers_of r =
    r.core.status ∷ r.core.handler ∷ r.core.pc ∷ r.core.age ∷ r.core.drive.left ∷ r.core.drive.sector ∷ r.core.drive.buffer
    ∷ (r.regs ++ (take 18 r.io ++ take 2 (drop 20 r.io)))

-- The fresh record is 40 zeros.
fresh-numbers : numbers_of fresh_record ≡ replicate record_numbers 0
unfolding numbers_of
fresh-numbers = refl

-- A record in which no two numbers can be exchanged unseen, and its numbers in the order of the C face.
numbered : Record
numbered =
    record {
      core = record { status = 5; handler = 1; pc = 0xABC; age = 0x0123456789; drive = drive_of 1000 0x2B 0xCEF };
      regs = 103 ∷ 104 ∷ 105 ∷ 106 ∷ 107 ∷ 108 ∷ 109 ∷ 110 ∷ 111 ∷ 112 ∷ 113 ∷ 114 ∷ 115 ∷ [];
      io = 200 ∷ 201 ∷ 202 ∷ 203 ∷ 204 ∷ 205 ∷ 206 ∷ 207 ∷ 208 ∷ 209 ∷ 210 ∷ 211 ∷ 212 ∷ 213 ∷ 214 ∷ 215 ∷ 216 ∷ 217 ∷ 0 ∷ 0 ∷ 220 ∷ 221 ∷ 0 ∷ [];
    }

its_numbers : List ℕ
its_numbers =
    5 ∷ 1 ∷ 0xABC ∷ 0x0123456789 ∷ 1000 ∷ 0x2B ∷ 0xCEF ∷ 103 ∷ 104 ∷ 105 ∷ 106 ∷ 107 ∷ 108 ∷ 109 ∷ 110 ∷ 111 ∷ 112 ∷ 113 ∷ 114 ∷ 115
    ∷ 200 ∷ 201 ∷ 202 ∷ 203 ∷ 204 ∷ 205 ∷ 206 ∷ 207 ∷ 208 ∷ 209 ∷ 210 ∷ 211 ∷ 212 ∷ 213 ∷ 214 ∷ 215 ∷ 216 ∷ 217 ∷ 220 ∷ 221 ∷ []

in_order : (numbers_of numbered ≡ its_numbers) × (record_of its_numbers ≡ numbered)
unfolding numbers_of record_of numbered its_numbers
in_order = (refl, refl)

-- A record stands for numbers where it is theirs. The code's fields have 32 bits, the age 64: where a number is wider, an unsound record stands
-- for the unsound one of the numbers.
abbrev pub StandsFor : List ℕ → Record → Type 0
StandsFor numbers r = (r ≡ record_of numbers) ⊎ ((is_sound r ≡ false) × (is_sound (record_of numbers) ≡ false))
