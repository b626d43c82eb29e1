-- What saving and reading a record promise, in the numbers of the C face. Assumes nothing.
use Prim.Native.Nat.{ℕ}
use mathlib.Core.Path.{◌≡◌, refl, ◌∙◌, ap}
use mathlib.Core.Bool.{Bool, true, false}
use mathlib.Core.Logic.{inl, inr}
use mathlib.Core.List.{List, [], ◌∷◌}
use lib.Dec.{eqb}
use lib.ListN.{length}
use Rattle.text.specs.declared.Outcome.{Outcome}
use Rattle.text.specs.Questions.{accepted, first_no, unless_refused}
use Rattle.machine.specs.declared.Record.{Record}
use Rattle.saved.specs.Calls.{save_outcome, save_bytes, load_outcome, load_record}
use Rattle.saved.specs.Layout.{saved_bytes}
use Rattle.saved.specs.Sound.{is_sound}
use Rattle.saved.proofs.TripLaws.{load_save}
use Rattle.simp.specs.Numbers.{record_numbers, record_of, numbers_of, StandsFor}
use Rattle.simp.specs.Records.{Saves, Loads}
use Rattle.simp.proofs.NumberLaws.{numbers_again}

-- ---- saving

-- An unsound record leaves the bytes.
unsound-keeps : (r : Record) (bytes : List ℕ) → is_sound r ≡ false → save_bytes r bytes ≡ bytes
unsound-keeps r bytes e = rw e (go (eqb (length bytes) 94))
  where
    go : (t : Bool) → unless_refused (first_no ((1, t) ∷ (13, false) ∷ []) 0 (accepted 0)) (saved_bytes r) bytes ≡ bytes
    go true = refl
    go false = refl

module _ (numbers : List ℕ) (s : Record) (bytes : List ℕ) where
  -- Saving a record that stands for numbers is saving theirs.
  save_outcome_lem : StandsFor numbers s → save_outcome s bytes ≡ save_outcome (record_of numbers) bytes
  save_outcome_lem (inl e) = ap (λ (r : Record). save_outcome r bytes) e
  save_outcome_lem (inr e) = rw (e.0, e.1)

  save_bytes_lem : StandsFor numbers s → save_bytes s bytes ≡ save_bytes (record_of numbers) bytes
  save_bytes_lem (inl e) = ap (λ (r : Record). save_bytes r bytes) e
  save_bytes_lem (inr e) = rw (unsound-keeps s bytes e.0, unsound-keeps (record_of numbers) bytes e.1)

pub saves_wrong : (numbers bytes : List ℕ) → eqb (length numbers) record_numbers ≡ false → Saves numbers bytes 1 bytes
saves_wrong numbers bytes e = record { number = rw e; bytes_are = rw e }

pub saves : {numbers bytes : List ℕ} {s : Record} {t : Outcome} {after : List ℕ} {r : Outcome} → eqb (length numbers) record_numbers ≡ true → StandsFor numbers s
    → (t ≡ save_outcome s bytes) × (after ≡ save_bytes s bytes) → r ≡ t → Saves numbers bytes r.number after
saves {numbers} {bytes} {s} e w p t =
    record {
      number = rw e (ap (λ (x : Outcome). x.number) (t ∙ p.0 ∙ save_outcome_lem numbers s bytes w));
      bytes_are = rw e (p.1 ∙ save_bytes_lem numbers s bytes w);
    }

-- ---- reading

pub loads_wrong : (bytes numbers : List ℕ) → eqb (length numbers) record_numbers ≡ false → Loads bytes numbers 1 numbers
loads_wrong bytes numbers e = record { number = rw e; record_is = rw e }

pub loads : {bytes numbers : List ℕ} {s : Record} {t : Outcome} {after : List ℕ} {r : Outcome} → eqb (length numbers) record_numbers ≡ true
    → (t ≡ load_outcome bytes) × (s ≡ load_record bytes) → after ≡ numbers_of s → r ≡ t → Loads bytes numbers r.number after
loads e p q t =
    record {
      number = rw e (ap (λ (x : Outcome). x.number) (t ∙ p.0));
      record_is = rw e (q ∙ ap numbers_of p.1);
    }

-- The numbers of a sound record read back from its bytes.
pub numbers-back : (numbers : List ℕ) → length numbers ≡ record_numbers → is_sound (record_of numbers) ≡ true → numbers_of (load_record (saved_bytes (record_of numbers))) ≡ numbers
numbers-back numbers e s = ap numbers_of (load_save (record_of numbers) s) ∙ numbers_again numbers e
