-- How each answer meets its promise. Assumes nothing.
use Rattle.std.specs.Prelude.{Result, Ok, Err}
use Prim.Native.Nat.{ℕ, ◌≤◌, ◌<◌}
use mathlib.Core.Path.{◌≡◌, refl}
use mathlib.Core.Bool.{Bool, true, false}
use mathlib.Core.List.{List}
use lib.ListN.{length}
use lib.Dec.{eqb}
use borrow.Author.Tests.{le-leb, lt-leb}
use Rattle.text.specs.Lines.{lines}
use Rattle.text.specs.Place.{put}
use Rattle.files.specs.declared.FileError.{FileError}
use Rattle.files.specs.declared.CycleError.{CycleError}
use Rattle.files.specs.declared.WriteError.{WriteError}
use Rattle.files.specs.MemoryFile.{lines_outcome, read_outcome, write_outcome, file_words}
use Rattle.files.specs.Irq2File.{irq2_outcome, file_cycles}
use Rattle.files.specs.Answers.{file_refusal, cycle_refusal, file_read_outcome, cycles_read_outcome}
use Rattle.files.specs.Promises.{MemoryRead, Irq2Read, TextWritten}

-- ---- writers

module _ {is_right : Bool} {file out : List ℕ} where
  pub wrong_length : is_right ≡ false → TextWritten is_right file out (Err WriteError.WrongLength) out
  unfolding write_outcome
  wrong_length e = record { answer = rw e; bytes = rw e }

  module _ (right : is_right ≡ true) where
    pub no_room : length out < length file → TextWritten is_right file out (Err WriteError.NoRoom) out
    unfolding write_outcome
    no_room h = let full = lt-leb (length file) (length out) h in record { answer = rw (right, full); bytes = rw (right, full) }

    pub wrote : {n : ℕ} {after : List ℕ} → length file ≤ length out → n ≡ length file → after ≡ put out 0 file
        → TextWritten is_right file out (Ok n) after
    unfolding write_outcome
    wrote h e q = let fits = le-leb (length file) (length out) h in record { answer = rw (right, fits, e); bytes = rw (right, fits) q }

-- ---- readers

-- A refusal has a number.
pub file_refused : (e : FileError) → eqb (file_refusal e).number 0 ≡ false
file_refused FileError.WrongLength = refl
file_refused (FileError.NoWord line) = refl
file_refused (FileError.BadDigits line) = refl

pub cycle_refused : (e : CycleError) → eqb (cycle_refusal e).number 0 ≡ false
cycle_refused (CycleError.NoWord line) = refl
cycle_refused (CycleError.BadCycle line) = refl
cycle_refused (CycleError.NotRising line) = refl

module _ {k : ℕ} {is_right : ℕ → Bool} {text memory : List ℕ} where
  pub read_wrong_length : is_right (length memory) ≡ false → MemoryRead k is_right text memory (Err FileError.WrongLength) memory
  unfolding read_outcome
  read_wrong_length e = record { answer = rw e; words = rw e }

  module _ (right : is_right (length memory) ≡ true) {r : Result (Unit {0}) FileError} where
    -- The lines are refused, ..
    pub read-refused : file_read_outcome r ≡ lines_outcome k (length memory) text → eqb (file_read_outcome r).number 0 ≡ false
        → MemoryRead k is_right text memory r memory
    unfolding read_outcome
    read-refused e never = record { answer = rw right e; words = rw (right, ← e, never) }

    -- .. or their words are in the memory.
    pub read-filled : {after : List ℕ} → file_read_outcome r ≡ lines_outcome k (length memory) text → eqb (file_read_outcome r).number 0 ≡ true
        → after ≡ file_words (length memory) (lines text) → MemoryRead k is_right text memory r after
    unfolding read_outcome
    read-filled e good q = record { answer = rw right e; words = rw (right, ← e, good) q }

    -- A reader whose length was asked before.
    pub read_asked : {after : List ℕ} → MemoryRead k (λ n. true) text memory r after → MemoryRead k is_right text memory r after
    unfolding read_outcome
    read_asked p = record { answer = rw right p.answer; words = rw right p.words }

-- ---- the irq2 file

module _ (text cycles : List ℕ) (r : Result ℕ CycleError) (e : cycles_read_outcome r ≡ irq2_outcome (length cycles) text) where
  pub irq2-refused : eqb (cycles_read_outcome r).number 0 ≡ false → Irq2Read text cycles r cycles
  irq2-refused never = record { answer = e; places = rw (← e, never) }

  pub irq2-read : (after : List ℕ) → eqb (cycles_read_outcome r).number 0 ≡ true → after ≡ put cycles 0 (file_cycles text) → Irq2Read text cycles r after
  irq2-read after good q = record { answer = e; places = rw (← e, good) q }
