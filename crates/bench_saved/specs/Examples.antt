-- The definitions computed on the fresh record.
use Rattle.std.specs.Prelude.{ℕ, ◌≡◌, refl, [], ◌∷◌, map, get_or, replicate}
use Rattle.isa.specs.Registers.{io_bits}
use Rattle.bitpack.specs.Bits.{bits}
use Rattle.bitpack.specs.Packed.{bytes_of, number_of}
use Rattle.bitpack.specs.Format.{bytes_of_record, fields_in}
use Rattle.saved.specs.Layout.{widths, fields_of, record_of, widths_one, record_one}
use Rattle.saved.specs.Sound.{is_sound}
use Rattle.saved.specs.Calls.{fresh_record, format_of}
use Rattle.bench_saved.specs.Turns.{saves, saves_done, loads_done}

-- Three saves are accepted where 94 bytes are lent, and none where 91 are; the last has age 2, the low byte of which is byte 7.
three-saves : map (λ (k : ℕ). saves_done fresh_record 3 (replicate k 0)) (94 ∷ 91 ∷ []) ≡ 3 ∷ 0 ∷ []
unfolding is_sound fields_of widths io_bits bytes_of_record bytes_of bits
three-saves = refl

last-age : get_or (saves fresh_record 3 (replicate 94 0)) 7 0 ≡ 2
unfolding is_sound fields_of widths io_bits bytes_of_record bytes_of bits
last-age = refl

-- Readings of both editions count, and those that are refused do not.
readings : map (loads_done 3) ((2 ∷ replicate 93 0) ∷ (1 ∷ replicate 90 0) ∷ (1 ∷ replicate 93 0) ∷ (2 ∷ replicate 90 0) ∷ []) ≡ 3 ∷ 3 ∷ 0 ∷ 0 ∷ []
unfolding format_of fields_in record_of record_one is_sound fields_of widths widths_one io_bits number_of bits
readings = refl
