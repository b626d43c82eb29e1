-- The outcome of a file that was read, and the memory then: some text decides them. Assumes nothing.
use Rattle.std.specs.Prelude.{Result, Ok, Err}
use Prim.Native.Nat.{ℕ}
use mathlib.Core.Path.{◌≡◌, refl, ◌∙◌}
use mathlib.Core.Bool.{Bool}
use mathlib.Core.List.{List}
use native.Mathlib.Omega.{arith}
use Rattle.text.specs.declared.Outcome.{Outcome}
use Rattle.text.specs.Questions.{accepted}
use Rattle.files.specs.declared.FileError.{FileError}
use Rattle.files.specs.declared.CycleError.{CycleError}
use Rattle.files.specs.Answers.{file_read_outcome, cycles_read_outcome}
use Rattle.files.specs.Promises.{MemoryRead, Irq2Read}
use Rattle.files.specs.Loaded.{FileLoaded, CyclesLoaded}

module _ {k : ℕ} {is_right : ℕ → Bool} {text before after : List ℕ} {r : Result (Unit {0}) FileError} (read : MemoryRead k is_right text before r after) where
  pub file_loaded : {t : Outcome} → t ≡ file_read_outcome r → FileLoaded k is_right t before after
  file_loaded says = let outcome = says ∙ read.answer in record { text = text; outcome = outcome; words = rw outcome read.words }

module _ {text before after : List ℕ} {r : Result ℕ CycleError} (read : Irq2Read text before r after) where
  pub cycles-loaded : {t : Outcome} → t ≡ cycles_read_outcome r → CyclesLoaded t before after
  cycles-loaded says = let outcome = says ∙ read.answer in record { text = text; outcome = outcome; places = rw outcome read.places }

-- A file whose number is 0 is accepted.
pub filled : (r : Result (Unit {0}) FileError) → (file_read_outcome r).number ≡ 0 → file_read_outcome r ≡ accepted 0
filled (Ok done) e = refl
filled (Err FileError.WrongLength) e = absurd (omega arith)
filled (Err (FileError.NoWord line)) e = absurd (omega arith)
filled (Err (FileError.BadDigits line)) e = absurd (omega arith)

pub counted : (r : Result ℕ CycleError) → (cycles_read_outcome r).number ≡ 0 → cycles_read_outcome r ≡ accepted (cycles_read_outcome r).count
counted (Ok count) e = refl
counted (Err (CycleError.NoWord line)) e = absurd (omega arith)
counted (Err (CycleError.BadCycle line)) e = absurd (omega arith)
counted (Err (CycleError.NotRising line)) e = absurd (omega arith)
