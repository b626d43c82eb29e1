-- How each answer meets its promise. Assumes nothing.
use Prim.Native.Nat.{ℕ}
use mathlib.Core.Path.{◌≡◌, refl}
use mathlib.Core.Bool.{true, false, ◌||◌}
use mathlib.Core.List.{List}
use lib.Dec.{eqb}
use lib.ListN.{length, get_or}
use native.Mathlib.Omega.{arith}
use borrow.Author.Tests.{eq-eqb, ne_eqb, lt-ltb}
use Rattle.bitpack.specs.Format.{Format, fields_in, edition_in, record_in}
use Rattle.bitpack.proofs.PackLaws.{fit_at}
use Rattle.bitpack.proofs.FormatLaws.{fields_fit}
use Rattle.machine.specs.declared.Record.{Record}
use Rattle.saved.specs.Layout.{saved_bytes, widths, record_of, edition_two, widths_one, record_one, edition_one}
use Rattle.saved.specs.Sound.{is_sound}
use Rattle.saved.specs.Calls.{format_of, is_sound_in, is_busy_one}
use Rattle.saved.specs.Answers.{save_refusal, load_refusal}
use Rattle.saved.specs.Promises.{Saving, Loading}
use Rattle.saved.specs.declared.SaveError.{SaveError}
use Rattle.saved.specs.declared.LoadError.{LoadError}
use Rattle.std.proofs.Common.{Ok, Err}

-- ---- an error is a refusal

pub save_refused : (e : SaveError) → eqb (save_refusal e).number 0 ≡ false
save_refused SaveError.WrongLength = refl
save_refused SaveError.Unsound = refl

pub load_refused : (e : LoadError) → eqb (load_refusal e).number 0 ≡ false
load_refused LoadError.WrongLength = refl
load_refused LoadError.OtherEdition = refl
load_refused LoadError.Unsound = refl
load_refused LoadError.Busy = refl

-- ---- saving

module _ (r : Record) (out : List ℕ) where
  pub save_wrong_length : eqb (length out) 94 ≡ false → Saving r out (Err SaveError.WrongLength) out
  save_wrong_length e = (rw e, rw e)

  module _ (e : eqb (length out) 94 ≡ true) where
    pub save_unsound : is_sound r ≡ false → Saving r out (Err SaveError.Unsound) out
    save_unsound q = (rw (e, q), rw (e, q))

    pub save_done : is_sound r ≡ true → (new : List ℕ) → new ≡ saved_bytes r → Saving r out (Ok tt) new
    save_done q new is = (rw (e, q), rw (e, q) is)

-- ---- reading

module _ (b : List ℕ) where
  pub load_wrong_length : eqb (length b) 91 ≡ false → eqb (length b) 94 ≡ false → Loading b (Err LoadError.WrongLength)
  load_wrong_length e q = (rw (e, q), rw (e, q))

  -- Bytes of a format, by their length.
  module _ (F : Format Record) (is : format_of b ≡ F) (known : (eqb (length b) 91 || eqb (length b) 94) ≡ true) where
    pub load_edition : eqb (edition_in F b) F.edition ≡ false → Loading b (Err LoadError.OtherEdition)
    load_edition q = (rw (known, is, q), rw (known, is, q))

    module _ (q : eqb (edition_in F b) F.edition ≡ true) where
      pub load_unsound : is_sound_in F b ≡ false → Loading b (Err LoadError.Unsound)
      load_unsound s = (rw (known, is, q, s), rw (known, is, q, s))

      module _ (s : is_sound_in F b ≡ true) where
        pub load_busy : is_busy_one F b ≡ true → Loading b (Err LoadError.Busy)
        load_busy t = (rw (known, is, q, s, t), rw (known, is, q, s, t))

        pub load_loaded : is_busy_one F b ≡ false → (r : Record) → r ≡ record_in F b → Loading b (Ok r)
        load_loaded t r e = (rw (known, is, q, s, t), rw (known, is, q, s, t) e)

-- ---- the questions of each edition, by its fields

module _ (b : List ℕ) where
  -- Edition 2: the bits at the end, and the record.
  pub two_last : (get_or (fields_in edition_two b) 44 0 ≡ 0 → ⊥) → is_sound_in edition_two b ≡ false
  unfolding widths
  two_last h = rw (ne_eqb (get_or (fields_in edition_two b) 44 0) 0 h) refl

  pub two_sound : get_or (fields_in edition_two b) 44 0 ≡ 0 → is_sound_in edition_two b ≡ is_sound (record_of (fields_in edition_two b))
  unfolding widths
  two_sound h = rw (eq-eqb (get_or (fields_in edition_two b) 44 0) 0 h) refl

  -- Edition 1 has no bits at the end, ..
  no_last : get_or (fields_in edition_one b) 42 0 ≡ 0
  unfolding widths_one
  no_last = let low = fit_at widths_one (fields_in edition_one b) 42 (fields_fit edition_one b) in omega arith

  pub one-sound : is_sound_in edition_one b ≡ is_sound (record_one (fields_in edition_one b))
  unfolding widths_one
  one-sound = rw no_last refl

  -- .. and is busy where it has cycles to go.
  pub one-busy : (get_or (fields_in edition_one b) 5 0 ≡ 0 → ⊥) → is_busy_one edition_one b ≡ true
  unfolding record_one
  one-busy h = lt-ltb 0 (get_or (fields_in edition_one b) 5 0) (omega arith)

  pub one_free : get_or (fields_in edition_one b) 5 0 ≡ 0 → is_busy_one edition_one b ≡ false
  unfolding record_one
  one_free h = rw h refl
