-- How the reader's answer meets its promise. Assumes nothing.
use Rattle.std.specs.Prelude.{Result, Err}
use Prim.Native.Nat.{ℕ, ◌*◌}
use mathlib.Core.Path.{◌≡◌, refl, sym, ◌∙◌, ap}
use mathlib.Core.Bool.{true, false}
use mathlib.Core.List.{List}
use lib.ListN.{length, replicate}
use lib.Dec.{eqb}
use borrow.Author.Tests.{eq-eqb, ne_eqb, eqb-true}
use Rattle.text.specs.declared.Outcome.{Outcome}
use Rattle.intel_hex.specs.Words.{words_of}
use Rattle.intel_hex.specs.declared.HexError.{HexError}
use Rattle.intel_hex.specs.Reading.{hex_outcome}
use Rattle.intel_hex.specs.Answers.{hex_refusal, hex_read_outcome}
use Rattle.intel_hex.specs.Promises.{HexFileRead}
use Rattle.intel_hex.specs.Steps.{RecordsRead}
use Rattle.intel_hex.proofs.WordLaws.{words-given}

-- A refusal has a number.
pub hex_refused : (e : HexError) → eqb (hex_refusal e).number 0 ≡ false
hex_refused HexError.WrongLength = refl
hex_refused (HexError.BadRecord line) = refl
hex_refused (HexError.BadType line) = refl
hex_refused (HexError.BadAddress line) = refl

module _ (size : ℕ) (text memory : List ℕ) where
  pub wrong_length : (length memory ≡ size → ⊥) → HexFileRead size text memory (Err HexError.WrongLength) memory
  unfolding hex_outcome
  wrong_length e = let no = ne_eqb (length memory) size e in record { answer = rw no; words = rw no }

  -- The records were read into zeros, and r was answered.
  module _ (right : length memory ≡ size) (r : Result (Unit {0}) HexError) (bytes : List ℕ) (p : RecordsRead (4 * length memory) text (replicate 65792 0) r bytes) where
    outcome : hex_read_outcome r ≡ hex_outcome size (length memory) text
    unfolding hex_outcome
    outcome = rw (eq-eqb (length memory) size right) p.answer

    pub was_refused : eqb (hex_read_outcome r).number 0 ≡ false → HexFileRead size text memory r memory
    was_refused none = record { answer = outcome; words = rw (← outcome, none) }

    pub was_filled : (after : List ℕ) → eqb (hex_read_outcome r).number 0 ≡ true → after ≡ words_of (length memory) bytes → HexFileRead size text memory r after
    was_filled after good e =
        let number = eqb-true (hex_read_outcome r).number 0 good in
        let same = words-given (length memory) text (sym (ap (λ (o : Outcome). o.number) p.answer) ∙ number) in
        record { answer = outcome; words = rw (← outcome, good) (e ∙ ap (words_of (length memory)) (p.bytes number) ∙ sym same) }
