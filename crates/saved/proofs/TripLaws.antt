-- Return trips of the saved record: both editions are formats, so bitpack's FormatLaws say it. Assumes nothing.
use Prim.Native.Nat.{ℕ}
use mathlib.Core.Path.{◌≡◌, refl, sym, ◌∙◌, ap}
use mathlib.Core.Bool.{Bool, true, false, not, ◌&&◌, ◌||◌, false≢true}
use mathlib.Core.List.{List, [], ◌∷◌, ◌++◌}
use native.Mathlib.Omega.{arith}
use lib.Dec.{eqb, ltb}
use lib.ListN.{length, get_or, take, drop}
use lib.Pow.{are_bytes}
use borrow.Author.Tests.{eqb-true, eq-eqb, ltb-false}
use Rattle.text.specs.Questions.{accepted, first_no, unless_refused}
use Rattle.text.proofs.QuestionLaws.{first_yes}
use Rattle.text.proofs.Truth.{and_left, and_right}
use Rattle.bitpack.specs.Packed.{fit}
use Rattle.bitpack.specs.Needs.{Packs}
use Rattle.bitpack.specs.Format.{Format, Inverse, fields_in, edition_in, last_in, record_in, bytes_of_record}
use Rattle.bitpack.proofs.FormatLaws.{length-saved as length-any, length_fields, packs as packs-any, fields_back, edition-back, last-back, record_back, same_bytes as same-any, fields_kept, read-fit as read-fit-any, bytes_back}
use Rattle.devices.specs.Bus.{drive_of}
use Rattle.isa.specs.Registers.{io_bits}
use Rattle.machine.specs.declared.Record.{Record}
use Rattle.machine.specs.Soundness.{Sound}
use Rattle.machine.proofs.SoundLaws.{sound-fresh}
use Rattle.saved.specs.Layout.{record_bytes, widths, fields_of, record_of, saved_bytes, saved_fields, edition_two, widths_one, fields_one, record_one, edition_one}
use Rattle.saved.specs.Sound.{is_sound}
use Rattle.saved.specs.Calls.{fresh_record, save_outcome, save_bytes, format_of, is_sound_in, is_busy_one, load_outcome, load_record}
use Rattle.saved.specs.OldRecords.{upgraded, ReadAs}
use Rattle.saved.proofs.SoundTest.{sound_yes, sound-lengths, sound-fits, fits_one}
use Rattle.saved.proofs.PartLaws.{regs_are, io_are, last-is, parts_again}

-- ---- edition 2 is a format of the sound records

record_two : (r : Record) → is_sound r ≡ true → record_of (fields_of r) ≡ r
unfolding record_of fields_of
record_two r sound i =
    let p = sound-lengths r sound in
    record { core = r.core; regs = regs_are r.regs r.io p.0 p.1 i; io = io_are r.regs r.io p.0 p.1 i }

pub fields_again : (f : List ℕ) → length f ≡ 45 → get_or f 0 0 ≡ 2 → get_or f 44 0 ≡ 0 → fields_of (record_of f) ≡ f
unfolding record_of fields_of
fields_again [] h e q = absurd (omega arith)
fields_again (a ∷ []) h e q = absurd (omega arith)
fields_again (a ∷ b ∷ []) h e q = absurd (omega arith)
fields_again (a ∷ b ∷ c ∷ []) h e q = absurd (omega arith)
fields_again (a ∷ b ∷ c ∷ d ∷ []) h e q = absurd (omega arith)
fields_again (a ∷ b ∷ c ∷ d ∷ l ∷ []) h e q = absurd (omega arith)
fields_again (a ∷ b ∷ c ∷ d ∷ l ∷ g ∷ []) h e q = absurd (omega arith)
fields_again (a ∷ b ∷ c ∷ d ∷ l ∷ g ∷ s ∷ []) h e q = absurd (omega arith)
fields_again (a ∷ b ∷ c ∷ d ∷ l ∷ g ∷ s ∷ t ∷ vs) h e q =
    ap (λ (n : ℕ). n ∷ b ∷ c ∷ d ∷ l ∷ g ∷ s ∷ t ∷ (take 13 vs ++ (take 23 (drop 13 vs) ++ (0 ∷ [])))) (sym e)
    ∙ ap (λ (x : List ℕ). a ∷ b ∷ c ∷ d ∷ l ∷ g ∷ s ∷ t ∷ x) (parts_again vs (omega arith) q)

last_two_lem : (r : Record) → is_sound r ≡ true → get_or (fields_of r) 44 0 ≡ 0
unfolding fields_of
last_two_lem r sound = let p = sound-lengths r sound in last-is r.regs r.io p.0 p.1

pub two : Inverse edition_two is_sound
unfolding widths fields_of io_bits
two = record { record_again = record_two; fields_again = fields_again; fits = sound-fits; begins = λ r. refl; ends = last_two_lem; whole = refl; small = refl }

-- ---- edition 1 is a format of those with a free disk

abbrev pub is_sound_and_free : Record → Bool
is_sound_and_free r = is_sound r && eqb r.core.drive.left 0

free-drive : (r : Record) → is_sound r ≡ true → r.core.drive.left ≡ 0 → (r.core.drive.sector ≡ 0) × (r.core.drive.buffer ≡ 0)
free-drive r sound none = let f = (sound_yes r sound).disk.free none in (f.2, f.3)

module _ (r : Record) (h : is_sound_and_free r ≡ true) where
  sound-is : is_sound r ≡ true
  sound-is = and_left (is_sound r) (eqb r.core.drive.left 0) h

  drive-is : (r.core.drive.sector ≡ 0) × (r.core.drive.buffer ≡ 0)
  drive-is = free-drive r sound-is (eqb-true _ 0 (and_right (is_sound r) (eqb r.core.drive.left 0) h))

  record_one_lem : record_one (fields_one r) ≡ r
  unfolding record_one fields_one
  record_one_lem i =
      let p = sound-lengths r sound-is in
      let c = r.core in
      record {
        core = record { status = c.status; handler = c.handler; pc = c.pc; age = c.age; drive = record { left = c.drive.left; sector = sym drive-is.0 i; buffer = sym drive-is.1 i } };
        regs = regs_are r.regs r.io p.0 p.1 i;
        io = io_are r.regs r.io p.0 p.1 i;
      }

  last_one : get_or (fields_one r) 42 0 ≡ 0
  unfolding fields_one
  last_one = let p = sound-lengths r sound-is in last-is r.regs r.io p.0 p.1

fields_one_again : (f : List ℕ) → length f ≡ 43 → get_or f 0 0 ≡ 1 → get_or f 42 0 ≡ 0 → fields_one (record_one f) ≡ f
unfolding record_one fields_one
fields_one_again [] h e q = absurd (omega arith)
fields_one_again (a ∷ []) h e q = absurd (omega arith)
fields_one_again (a ∷ b ∷ []) h e q = absurd (omega arith)
fields_one_again (a ∷ b ∷ c ∷ []) h e q = absurd (omega arith)
fields_one_again (a ∷ b ∷ c ∷ d ∷ []) h e q = absurd (omega arith)
fields_one_again (a ∷ b ∷ c ∷ d ∷ l ∷ []) h e q = absurd (omega arith)
fields_one_again (a ∷ b ∷ c ∷ d ∷ l ∷ g ∷ vs) h e q =
    ap (λ (n : ℕ). n ∷ b ∷ c ∷ d ∷ l ∷ g ∷ (take 13 vs ++ (take 23 (drop 13 vs) ++ (0 ∷ [])))) (sym e)
    ∙ ap (λ (x : List ℕ). a ∷ b ∷ c ∷ d ∷ l ∷ g ∷ x) (parts_again vs (omega arith) q)

pub one : Inverse edition_one is_sound_and_free
unfolding widths_one fields_one io_bits
one =
    record { record_again = record_one_lem; fields_again = fields_one_again; fits = λ r h. fits_one r (sound-is r h); begins = λ r. refl; ends = last_one; whole = refl; small = refl }

-- ---- the format of bytes, by their length

pub format_two : (b : List ℕ) → length b ≡ 94 → format_of b ≡ edition_two
unfolding format_of
format_two b size = rw size refl

pub format_one : (b : List ℕ) → length b ≡ 91 → format_of b ≡ edition_one
unfolding format_of
format_one b size = rw size refl

-- ---- saved, then read

pub length-saved : (r : Record) → length (saved_bytes r) ≡ record_bytes
length-saved r = length-any edition_two r

-- The fields of a sound record fill 94 bytes.
pub packs : (r : Record) → is_sound r ≡ true → (k : ℕ) → k ≡ record_bytes → Packs widths (fields_of r) k
packs r h k e = rw e (packs-any edition_two is_sound two r h)

-- The fields of a record of edition 2 that is read fit.
pub read-fit : (b : List ℕ) → get_or (saved_fields b) 0 0 ≡ 2 → get_or (saved_fields b) 44 0 ≡ 0 → fit widths (fields_of (record_of (saved_fields b))) ≡ true
unfolding widths
read-fit b e q = read-fit-any edition_two is_sound two b e q

module _ (r : Record) (sound : is_sound r ≡ true) where
  -- A saved record is read, ..
  pub load_accepts : load_outcome (saved_bytes r) ≡ accepted 0
  load_accepts =
      rw (format_two (saved_bytes r) (length-saved r), length-saved r, edition-back edition_two is_sound two r sound, last-back edition_two is_sound two r sound, record_back edition_two is_sound two r sound, sound) refl

  -- .. and reads back as itself.
  pub load_save : load_record (saved_bytes r) ≡ r
  load_save =
      rw (format_two (saved_bytes r) (length-saved r), length-saved r, edition-back edition_two is_sound two r sound, last-back edition_two is_sound two r sound, record_back edition_two is_sound two r sound, sound) refl

  -- A sound record is saved in lent bytes of the right length, whatever they held; and what they hold then reads back.
  pub save_accepts : (out : List ℕ) → length out ≡ record_bytes → (save_outcome r out ≡ accepted 0) × (save_bytes r out ≡ saved_bytes r)
  save_accepts out size = (rw (eq-eqb (length out) record_bytes size, sound), rw (eq-eqb (length out) record_bytes size, sound))

  pub trip : (out : List ℕ) → length out ≡ record_bytes → (load_outcome (save_bytes r out) ≡ accepted 0) × (load_record (save_bytes r out) ≡ r)
  trip out size =
      let kept = (save_accepts out size).1 in
      (ap load_outcome kept ∙ load_accepts, ap load_record kept ∙ load_save)

-- Two sound records with the same bytes are the same.
pub same_bytes : (r s : Record) → is_sound r ≡ true → is_sound s ≡ true → saved_bytes r ≡ saved_bytes s → r ≡ s
same_bytes r s p q e = same-any edition_two is_sound two r s p q e

-- Refused, saving keeps the lent bytes, and reading hands back the fresh record.
pub save_keeps : (r : Record) (out : List ℕ) → eqb (save_outcome r out).number 0 ≡ false → save_bytes r out ≡ out
save_keeps r out e = rw e

pub load_fresh : (b : List ℕ) → eqb (load_outcome b).number 0 ≡ false → load_record b ≡ fresh_record
load_fresh b e = rw e

-- ---- read

-- What is accepted passed each question.
pub record Accepted (F : Format Record) (b : List ℕ) : Type 0 where
  pub edition-is : edition_in F b ≡ F.edition
  pub last-zero : last_in F b ≡ 0
  pub sound : is_sound (record_in F b) ≡ true
  pub not_busy : not (is_busy_one F b) ≡ true

pub accepted-all : (b : List ℕ) → (load_outcome b).number ≡ 0 → Accepted (format_of b) b
accepted-all b h =
    let F = format_of b in
    let first = first_yes 1 0 (eqb (length b) 91 || eqb (length b) 94) _ (omega arith) h in
    let second = first_yes 14 0 (eqb (edition_in F b) F.edition) _ (omega arith) first.1 in
    let third = first_yes 13 0 (is_sound_in F b) _ (omega arith) second.1 in
    let fourth = first_yes 20 0 (not (is_busy_one F b)) _ (omega arith) third.1 in
    record {
      edition-is = eqb-true _ _ second.0;
      last-zero = eqb-true _ 0 (and_left (eqb (last_in F b) 0) (is_sound (record_in F b)) third.0);
      sound = and_right (eqb (last_in F b) 0) (is_sound (record_in F b)) third.0;
      not_busy = fourth.0;
    }

pub load_record_lem : (b : List ℕ) → (load_outcome b).number ≡ 0 → load_record b ≡ record_in (format_of b) b
load_record_lem b h = rw (eq-eqb (load_outcome b).number 0 h) refl

-- What reading hands back is sound, whatever the questions get for answers.
asked : (a b c d e : Bool) (r : Record) → is_sound r ≡ d
    → let s = unless_refused (first_no ((1, a) ∷ (14, b) ∷ (13, c && d) ∷ (20, e) ∷ []) 0 (accepted 0)) r fresh_record in Sound s.core s.regs s.io
asked false b c d e r h = sound-fresh
asked true false c d e r h = sound-fresh
asked true true false d e r h = sound-fresh
asked true true true false e r h = sound-fresh
asked true true true true false r h = sound-fresh
asked true true true true true r h = sound_yes r h

pub load_sound : (state : Record) (bytes : List ℕ) → state ≡ load_record bytes → Sound state.core state.regs state.io
load_sound state bytes e =
    let F = format_of bytes in
    rw e
    (asked (eqb (length bytes) 91 || eqb (length bytes) 94) (eqb (edition_in F bytes) F.edition) (eqb (last_in F bytes) 0) _ (not (is_busy_one F bytes)) (record_in F bytes) refl)

-- Bytes of edition 2 that are read save as themselves.
pub save_load : (b : List ℕ) → are_bytes b ≡ true → length b ≡ record_bytes → (load_outcome b).number ≡ 0 → saved_bytes (load_record b) ≡ b
save_load b bytes size h =
    let is = format_two b size in
    let a : Accepted edition_two b = rw is at (accepted-all b h) in
    ap saved_bytes (load_record_lem b h ∙ ap (λ (F : Format Record). record_in F b) is) ∙ bytes_back edition_two is_sound two b a.edition-is a.last-zero size bytes

-- ---- edition 1

-- The fields of edition 2 that a record of edition 1 has.
one-upgraded : (f : List ℕ) → length f ≡ 43 → get_or f 42 0 ≡ 0 → fields_of (record_one f) ≡ upgraded f
unfolding fields_of record_one
one-upgraded [] h q = absurd (omega arith)
one-upgraded (a ∷ []) h q = absurd (omega arith)
one-upgraded (a ∷ b ∷ []) h q = absurd (omega arith)
one-upgraded (a ∷ b ∷ c ∷ []) h q = absurd (omega arith)
one-upgraded (a ∷ b ∷ c ∷ d ∷ []) h q = absurd (omega arith)
one-upgraded (a ∷ b ∷ c ∷ d ∷ l ∷ []) h q = absurd (omega arith)
one-upgraded (a ∷ b ∷ c ∷ d ∷ l ∷ g ∷ vs) h q = ap (λ (x : List ℕ). 2 ∷ b ∷ c ∷ d ∷ l ∷ g ∷ 0 ∷ 0 ∷ x) (parts_again vs (omega arith) q)

not_above : (n : ℕ) → not (true && ltb 0 n) ≡ true → n ≡ 0
not_above n h = go (ltb 0 n) refl h
  where
    go : (t : Bool) → ltb 0 n ≡ t → not (true && t) ≡ true → n ≡ 0
    go true e q = absurd (false≢true q)
    go false e q = let low = ltb-false 0 n e in omega arith

-- A sound record with a free disk is read of its bytes of edition 1.
pub load_one : (r : Record) → is_sound_and_free r ≡ true → (load_outcome (bytes_of_record edition_one r) ≡ accepted 0) × (load_record (bytes_of_record edition_one r) ≡ r)
load_one r h =
    let b = bytes_of_record edition_one r in
    let size = length-any edition_one r in
    let is = format_one b size in
    let first = edition-back edition_one is_sound_and_free one r h in
    let last = last-back edition_one is_sound_and_free one r h in
    let back = record_back edition_one is_sound_and_free one r h in
    let none = eqb-true r.core.drive.left 0 (and_right (is_sound r) (eqb r.core.drive.left 0) h) in
    (rw (is, size, first, last, back, sound-is r h, none) refl, rw (is, size, first, last, back, sound-is r h, none) refl)

-- Bytes of edition 1 that are read give the machine that they hold, which saves as edition 2 with the same fields; ..
pub read_one : (b : List ℕ) → length b ≡ 91 → (load_outcome b).number ≡ 0 → ReadAs b (load_record b)
unfolding record_one widths_one
read_one b size h =
    let is = format_one b size in
    let a : Accepted edition_one b = rw is at (accepted-all b h) in
    let r = record_in edition_one b in
    let f = fields_in edition_one b in
    let loaded : load_record b ≡ r = load_record_lem b h ∙ ap (λ (F : Format Record). record_in F b) is in
    let none : r.core.drive.left ≡ 0 = not_above r.core.drive.left a.not_busy in
    rw loaded
    (record {
      same_fields = fields_kept edition_one is_sound_and_free one b a.edition-is a.last-zero;
      free = ap (λ (n : ℕ). drive_of n 0 0) none;
      sound = a.sound;
      saves = fields_back edition_two is_sound two r a.sound ∙ one-upgraded f (length_fields edition_one b) a.last-zero;
    })

-- .. in edition 1 it has these bytes.
pub one-bytes : (b : List ℕ) → are_bytes b ≡ true → length b ≡ 91 → (load_outcome b).number ≡ 0 → bytes_of_record edition_one (load_record b) ≡ b
one-bytes b bytes size h =
    let is = format_one b size in
    let a : Accepted edition_one b = rw is at (accepted-all b h) in
    ap (bytes_of_record edition_one) (load_record_lem b h ∙ ap (λ (F : Format Record). record_in F b) is) ∙ bytes_back edition_one is_sound_and_free one b a.edition-is a.last-zero size bytes
