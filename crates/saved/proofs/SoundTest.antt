-- The test of soundness says what machine's Sound says. Assumes nothing.
use Prim.Native.Nat.{ℕ, ◌^◌, ◌≤◌, ◌<◌}
use mathlib.Core.Path.{◌≡◌, refl, sym, ap, ◌∙◌}
use mathlib.Core.Bool.{Bool, true, false, ◌&&◌, false≢true}
use mathlib.Core.List.{List, [], ◌∷◌, ◌++◌, map}
use native.Mathlib.Nat.{lt_of_lt_of_le}
use native.Mathlib.Omega.{arith}
use lib.Dec.{eqb, ltb, leb}
use lib.ListN.{length, get_or, replicate, get_or-eq_default}
use borrow.Author.Tests.{eqb-true, leb-true, ltb-true, ltb-false, lt-ltb, le-leb, eq-eqb, ne_eqb}
use Rattle.text.proofs.Truth.{and_left, and_right}
use Rattle.text.proofs.TableLaws.{numbers_rule}
use Rattle.bitpack.specs.Packed.{fit}
use Rattle.bitpack.proofs.PackLaws.{fit_at}
use Rattle.bitpack.proofs.FitLaws.{fit_parts, fit_all, repeated_le, fit-repeated}
use Rattle.isa.specs.Registers.{io_bits, diskcmd, diskstatus, monitorcmd}
use Rattle.isa.proofs.IoLaws.{no_bits-above}
use Rattle.machine.specs.declared.Core.{Core}
use Rattle.machine.specs.declared.Record.{Record}
use Rattle.devices.specs.Soundness.{SoundDrive, is_sound_drive}
use Rattle.devices.proofs.SoundLaws.{test_sound, sound_test as drive-test}
use Rattle.machine.specs.Soundness.{field_bits, FittingIo, SoundCore, Sound}
use Rattle.saved.specs.Layout.{edition, io_numbers, widths, fields_of, widths_one, fields_one}
use Rattle.machine.proofs.SoundLaws.{sound-fresh}
use Rattle.saved.specs.Sound.{is_sound}
use Rattle.saved.specs.Calls.{fresh_record}

-- ---- tests

-- Two tests that pass pass together.
both : (a b : Bool) → a ≡ true → b ≡ true → (a && b) ≡ true
both a b p q = rw (p, q)

-- Tests that pass together pass each.
each : (a b c d e : Bool) → (a && b && c && d && e) ≡ true → (a ≡ true) × (b ≡ true) × (c ≡ true) × (d ≡ true) × (e ≡ true)
each true true true true e q = (refl, refl, refl, refl, q)
each true true true false e q = absurd (false≢true q)
each true true false d e q = absurd (false≢true q)
each true false c d e q = absurd (false≢true q)
each false b c d e q = absurd (false≢true q)

-- ---- the widths of the registers

-- The table of the widths; past the 23 both are 0.
field-bits-at : (n : ℕ) → get_or (map field_bits io_numbers) n 0 ≡ field_bits n
unfolding io_bits
field-bits-at n = go (ltb n 23) refl
  where
    go : (t : Bool) → ltb n 23 ≡ t → get_or (map field_bits io_numbers) n 0 ≡ field_bits n
    go true e = numbers_rule field_bits (map field_bits io_numbers) 23 refl n (ltb-true n 23 e)
    go false e =
        let past = ltb-false n 23 e in
        rw (get_or-eq_default (map field_bits io_numbers) 0 past, ne_eqb n monitorcmd (λ q. omega arith), no_bits-above n past)

-- ---- the parts of the fields

-- The edition and the scalars of edition 2: their widths, their fields.
abbrev pub scalar_widths : List ℕ
scalar_widths = 8 ∷ 3 ∷ 1 ∷ 12 ∷ 40 ∷ 11 ∷ 7 ∷ 12 ∷ []

abbrev pub scalars_of : Core → List ℕ
scalars_of c = edition ∷ c.status ∷ c.handler ∷ c.pc ∷ c.age ∷ c.drive.left ∷ c.drive.sector ∷ c.drive.buffer ∷ []

-- Sound scalars fit.
scalars-fit : (c : Core) (io : List ℕ) → SoundCore (2 ^ 40) c → SoundDrive c.drive io → fit scalar_widths (scalars_of c) ≡ true
scalars-fit c io s d =
    let left = d.left in
    let sector = d.sector in
    let buffer = d.buffer in
    rw (lt-ltb c.status 8 (omega arith), lt-ltb _ _ s.handler, lt-ltb _ _ s.pc, lt-ltb _ _ s.age, lt-ltb c.drive.left 2048 (omega arith), lt-ltb c.drive.sector 128 (omega arith), lt-ltb c.drive.buffer 4096 (omega arith))

-- The I/O registers, with so many bits at the end.
abbrev pub io_widths : ℕ → List ℕ
io_widths zeros = map field_bits io_numbers ++ (zeros ∷ [])

io-fit : (zeros : ℕ) (io : List ℕ) → length io ≡ 23 → fit (io_widths zeros) (io ++ (0 ∷ [])) ≡ (fit (map field_bits io_numbers) io && fit (zeros ∷ []) (0 ∷ []))
io-fit zeros io all = fit_parts (map field_bits io_numbers) (zeros ∷ []) io (0 ∷ []) (sym all)

-- Fields fit where the scalars, the registers and the I/O registers do.
fit_by_parts : (ws vs : List ℕ) (zeros : ℕ) (regs io : List ℕ) → length ws ≡ length vs → length regs ≡ 13
    → fit (ws ++ (replicate 13 32 ++ io_widths zeros)) (vs ++ (regs ++ (io ++ (0 ∷ [])))) ≡ (fit ws vs && (fit (replicate 13 32) regs && fit (io_widths zeros) (io ++ (0 ∷ []))))
fit_by_parts ws vs zeros regs io same thirteen =
    fit_parts ws (replicate 13 32 ++ io_widths zeros) vs (regs ++ (io ++ (0 ∷ []))) same
    ∙ ap (λ (t : Bool). fit ws vs && t) (fit_parts (replicate 13 32) (io_widths zeros) regs (io ++ (0 ∷ [])) (sym thirteen))

fields_fit : (r : Record) → length r.regs ≡ 13
    → fit widths (fields_of r) ≡ (fit scalar_widths (scalars_of r.core) && (fit (replicate 13 32) r.regs && fit (io_widths 5) (r.io ++ (0 ∷ []))))
unfolding widths fields_of
fields_fit r thirteen = fit_by_parts scalar_widths (scalars_of r.core) 5 r.regs r.io refl thirteen

-- Registers of 32 bits fit: the fields do where the scalars and the I/O registers do.
pub others_fit : (r : Record) → length r.regs ≡ 13 → ((k : ℕ) → get_or r.regs k 0 < 2 ^ 32)
    → fit widths (fields_of r) ≡ (fit scalar_widths (scalars_of r.core) && fit (io_widths 5) (r.io ++ (0 ∷ [])))
others_fit r thirteen small = fields_fit r thirteen ∙ rw (fit-repeated 13 32 r.regs thirteen small)

-- ---- the record

-- What the test asks, part by part.
record Passed (r : Record) : Type 0 where
  thirteen : length r.regs ≡ 13
  all : length r.io ≡ 23
  fits : fit widths (fields_of r) ≡ true
  status : r.core.status ≤ 5
  disk : is_sound_drive r.core.drive (get_or r.io diskstatus 0) (get_or r.io diskcmd 0) ≡ true

-- A record that passes the test passes each part.
passed : (r : Record) → is_sound r ≡ true → Passed r
unfolding is_sound
passed r e =
    let drive = is_sound_drive r.core.drive (get_or r.io diskstatus 0) (get_or r.io diskcmd 0) in
    let p = each (eqb (length r.regs) 13) (eqb (length r.io) 23) (fit widths (fields_of r)) (leb r.core.status 5) drive e in
    record { thirteen = eqb-true _ _ p.0; all = eqb-true _ _ p.1; fits = p.2; status = leb-true _ _ p.3; disk = p.4 }

-- A record that passes each part passes the test.
passing : (r : Record) → Passed r → is_sound r ≡ true
unfolding is_sound
passing r p = rw (eq-eqb _ _ p.thirteen, eq-eqb _ _ p.all, p.fits, le-leb _ _ p.status) p.disk

-- A record that passes has 13 registers and 23 places of I/O registers.
pub sound-lengths : (r : Record) → is_sound r ≡ true → (length r.regs ≡ 13) × (length r.io ≡ 23)
sound-lengths r e = let p = passed r e in (p.thirteen, p.all)

-- Its fields fit their widths.
pub sound-fits : (r : Record) → is_sound r ≡ true → fit widths (fields_of r) ≡ true
sound-fits r e = (passed r e).fits

-- A record whose fields do not fit does not pass.
pub unfit_unsound : (r : Record) → fit widths (fields_of r) ≡ false → is_sound r ≡ false
unfit_unsound r unfit = go (is_sound r) refl
  where
    go : (t : Bool) → is_sound r ≡ t → is_sound r ≡ false
    go true e = absurd (false≢true (sym unfit ∙ sound-fits r e))
    go false e = e

-- A record that passes the test is sound.
pub sound_yes : (r : Record) → is_sound r ≡ true → Sound r.core r.regs r.io
unfolding io_bits
sound_yes r e =
    let p = passed r e in
    let parts = sym (fields_fit r p.thirteen) ∙ p.fits in
    let scalars = and_left (fit scalar_widths (scalars_of r.core)) _ parts in
    let rest = and_right (fit scalar_widths (scalars_of r.core)) _ parts in
    let registers = and_left (fit (replicate 13 32) r.regs) _ rest in
    let io = and_left (fit (map field_bits io_numbers) r.io) true (sym (io-fit 5 r.io p.all) ∙ and_right (fit (replicate 13 32) r.regs) _ rest) in
    let fitting : FittingIo r.io = λ n. rw (field-bits-at n) at (fit_at (map field_bits io_numbers) r.io n io) in
    record {
      core =
          record {
            status = p.status;
            handler = fit_at scalar_widths (scalars_of r.core) 2 scalars;
            pc = fit_at scalar_widths (scalars_of r.core) 3 scalars;
            age = fit_at scalar_widths (scalars_of r.core) 4 scalars;
          };
      thirteen = p.thirteen;
      registers = λ n. lt_of_lt_of_le (fit_at (replicate 13 32) r.regs n registers) (repeated_le 13 32 n);
      all = p.all;
      fitting = fitting;
      disk = test_sound r.core.drive r.io p.disk;
    }

-- A sound record passes the test.
pub sound_test : (r : Record) → Sound r.core r.regs r.io → is_sound r ≡ true
sound_test r s =
    let k = s.core in
    let registers = fit-repeated 13 32 r.regs s.thirteen s.registers in
    let io = fit_all (map field_bits io_numbers) r.io (sym s.all) (λ i. rw (field-bits-at i) (s.fitting i)) in
    passing r
    (record {
      thirteen = s.thirteen;
      all = s.all;
      fits = fields_fit r s.thirteen ∙ both _ _ (scalars-fit r.core r.io k s.disk) (both _ _ registers (io-fit 5 r.io s.all ∙ both _ _ io refl));
      status = k.status;
      disk = drive-test r.core.drive r.io s.disk;
    })

-- A sound record's fields of edition 1 fit too.
pub fits_one : (r : Record) → is_sound r ≡ true → fit widths_one (fields_one r) ≡ true
unfolding widths_one fields_one
fits_one r e =
    let s = sound_yes r e in
    let k = s.core in
    let left = s.disk.left in
    let scalars : fit (8 ∷ 3 ∷ 1 ∷ 12 ∷ 40 ∷ 11 ∷ []) (1 ∷ r.core.status ∷ r.core.handler ∷ r.core.pc ∷ r.core.age ∷ r.core.drive.left ∷ []) ≡ true =
    rw (lt-ltb r.core.status 8 (omega arith), lt-ltb _ _ k.handler, lt-ltb _ _ k.pc, lt-ltb _ _ k.age, lt-ltb r.core.drive.left 2048 (omega arith)) in
    let registers = fit-repeated 13 32 r.regs s.thirteen s.registers in
    let io = fit_all (map field_bits io_numbers) r.io (sym s.all) (λ i. rw (field-bits-at i) (s.fitting i)) in
    fit_by_parts (8 ∷ 3 ∷ 1 ∷ 12 ∷ 40 ∷ 11 ∷ []) (1 ∷ r.core.status ∷ r.core.handler ∷ r.core.pc ∷ r.core.age ∷ r.core.drive.left ∷ []) 0 r.regs r.io refl s.thirteen
    ∙ both _ _ scalars (both _ _ registers (io-fit 0 r.io s.all ∙ both _ _ io refl))

-- The fresh record is sound.
pub fresh-sound : (state : Record) → state ≡ fresh_record → Sound state.core state.regs state.io
fresh-sound state e = rw e sound-fresh
