-- Decoding and encoding undo each other on 48 bits; the sign of an immediate. Assumes nothing.
use Rattle.std.proofs.Common.{◌≡◌, ℕ, suc, ◌+◌, ◌-◌, ◌/◌, ◌%◌, ◌^◌, ◌<◌, ◌≤◌, Bool, true, false, cond, ltb, pos, negsuc, sym, refl, add_assoc, arith, w32, to_z, ltb-false, ltb-true, le-ltb, lt-ltb}
use lib.Pow.{mod-pow-add}
use mir.Facts.{to_z_pos, to_z-neg}
use Rattle.isa.specs.declared.Fields.{Fields}
use Rattle.isa.specs.Word.{fields_of, word_of, Fitting, sign_extended}

pub decode_fits : (w : ℕ) → Fitting (fields_of w)
decode_fits w = record { op = omega arith; rd = omega arith; rs = omega arith; rt = omega arith; rm = omega arith; imm1 = omega arith; imm2 = omega arith }

-- What is encoded decodes to the same fields.
pub decode_encode : (f : Fields) → Fitting f → fields_of (word_of f) ≡ f
decode_encode f h = λ i. record { op = op i; rd = rd i; rs = rs i; rt = rt i; rm = rm i; imm1 = imm1 i; imm2 = imm2 i }
  where
    op : word_of f / 2 ^ 40 % 2 ^ 8 ≡ f.op
    op = omega arith

    rd : word_of f / 2 ^ 36 % 2 ^ 4 ≡ f.rd
    rd = omega arith

    rs : word_of f / 2 ^ 32 % 2 ^ 4 ≡ f.rs
    rs = omega arith

    rt : word_of f / 2 ^ 28 % 2 ^ 4 ≡ f.rt
    rt = omega arith

    rm : word_of f / 2 ^ 24 % 2 ^ 4 ≡ f.rm
    rm = omega arith

    imm1 : word_of f / 2 ^ 12 % 2 ^ 12 ≡ f.imm1
    imm1 = omega arith

    imm2 : word_of f % 2 ^ 12 ≡ f.imm2
    imm2 = omega arith

-- What is decoded encodes to the word's low 48 bits.
pub encode_decode : (w : ℕ) → word_of (fields_of w) ≡ w % 2 ^ 48
encode_decode w =
    sym
    (rw (mod-pow-add w 8 40, mod-pow-add w 4 36, mod-pow-add w 4 32, mod-pow-add w 4 28, mod-pow-add w 4 24, mod-pow-add w 12 12)
    (simp add_assoc))

-- Bits above 47 are not read.
pub high_bits_not_read : (w : ℕ) → fields_of (w % 2 ^ 48) ≡ fields_of w
high_bits_not_read w = λ i. record { op = op i; rd = rd i; rs = rs i; rt = rt i; rm = rm i; imm1 = imm1 i; imm2 = imm2 i }
  where
    op : (w % 2 ^ 48) / 2 ^ 40 % 2 ^ 8 ≡ w / 2 ^ 40 % 2 ^ 8
    op = omega arith

    rd : (w % 2 ^ 48) / 2 ^ 36 % 2 ^ 4 ≡ w / 2 ^ 36 % 2 ^ 4
    rd = omega arith

    rs : (w % 2 ^ 48) / 2 ^ 32 % 2 ^ 4 ≡ w / 2 ^ 32 % 2 ^ 4
    rs = omega arith

    rt : (w % 2 ^ 48) / 2 ^ 28 % 2 ^ 4 ≡ w / 2 ^ 28 % 2 ^ 4
    rt = omega arith

    rm : (w % 2 ^ 48) / 2 ^ 24 % 2 ^ 4 ≡ w / 2 ^ 24 % 2 ^ 4
    rm = omega arith

    imm1 : (w % 2 ^ 48) / 2 ^ 12 % 2 ^ 12 ≡ w / 2 ^ 12 % 2 ^ 12
    imm1 = omega arith

    imm2 : (w % 2 ^ 48) % 2 ^ 12 ≡ w % 2 ^ 12
    imm2 = omega arith

-- The number that 2,048 more takes to the immediate with its sign turned is the immediate sign-extended.
pub sign_wraps : (i r : ℕ) → i < 2 ^ 12 → r < 2 ^ 32 → (r + 2048) % 2 ^ 32 ≡ (i + 2048) % 4096 → r ≡ sign_extended i
sign_wraps i r h k e = go (ltb i (2 ^ 11)) refl
  where
    go : (t : Bool) → ltb i (2 ^ 11) ≡ t → r ≡ cond t i (2 ^ 32 - 2 ^ 12 + i)
    go true low = let small = ltb-true i (2 ^ 11) low in omega arith
    go false high = let large = ltb-false i (2 ^ 11) high in omega arith

-- Read as a signed number, an immediate below 2^11 is itself, ..
pub reads_plain : (i : ℕ) → i < 2 ^ 11 → to_z w32 (sign_extended i) ≡ pos i
reads_plain i h = rw (lt-ltb i (2 ^ 11) h) (to_z_pos w32 (omega arith))

-- .. and one from there on is what it lacks to 2^12, with a minus.
pub reads_negative : (i : ℕ) → 2 ^ 11 ≤ i → i < 2 ^ 12 → to_z w32 (sign_extended i) ≡ negsuc (2 ^ 12 - suc i)
reads_negative i low high =
    let bits : 2 ^ 32 - 2 ^ 12 + i ≡ 2 ^ 32 - suc (2 ^ 12 - suc i) = omega arith in
    rw (le-ltb i (2 ^ 11) low, bits) (to_z-neg w32 (2 ^ 12 - suc i) (omega arith))
