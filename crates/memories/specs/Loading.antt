-- What reading a memory file promises.
use Rattle.std.specs.Prelude.{ℕ, ◌+◌, ◌*◌, ◌≡◌, ◌≤◌, ◌<◌, Bool, true, List, length, Option, Some, None, Result}
use Rattle.std.specs.Borrow.{Bor, MutBor}
use Rattle.std.specs.Fn.{Once}
use Rattle.text.specs.declared.Outcome.{Outcome}
use Rattle.text.specs.Questions.{accepted}
use Rattle.files.specs.declared.FileError.{FileError}
use Rattle.files.specs.Front.{FrontRead}
use Rattle.files.specs.Loaded.{FileLoaded}
use Rattle.files.specs.Promises.{MemoryRead}

-- A memory was read from a file, whose text can't be named. A file that can't be read leaves the memory as it was.
abbrev pub LoadedFile : ℕ → (ℕ → Bool) → Option Outcome → List ℕ → List ℕ → Type 0
LoadedFile k is_right (Some t) before after = FileLoaded k is_right t before after
LoadedFile k is_right None before after = after ≡ before

-- Whether the file is accepted: then the memory is what some text of k digits a line gives that the definition of `files` accepts; else it is as before.
abbrev pub Loaded : ℕ → (ℕ → Bool) → Option Unit → List ℕ → List ℕ → Type 0
Loaded k is_right (Some _) before after = FileLoaded k is_right (accepted 0) before after
Loaded k is_right None before after = after ≡ before

-- A loader loads memories whose words have these numbers from files of k digits a line, `is_right` asking the memory's length.
pub record Loads (k : ℕ) (is_right : ℕ → Bool) {F C : Type 0} (numbers : List C → List ℕ)
    (g : Once F (Bor (List ℕ) × (MutBor (List C) × Unit {0})) (Option Outcome × (MutBor (List C) × Unit {0}))) (load : F) : Type 0 where
  pub loads : (path : Bor (List ℕ)) (memory left : MutBor (List C)) (answer : Option Outcome) → g.post load (path, (memory, tt)) (answer, (left, tt))
      → LoadedFile k is_right answer (numbers memory.now) (numbers left.now)

-- The most bytes that a memory file has: the frame's, 65,536 lines of 2 digits.
abbrev pub most_text : ℕ
most_text = 196608

-- A reader reads texts of k digits a line into memories whose words have these numbers, `is_right` asking the memory's length.
pub record Reads (k : ℕ) (is_right : ℕ → Bool) {F C : Type 0} (numbers : List C → List ℕ)
    (g : Once F (Bor (List ℕ) × (MutBor (List C) × Unit {0})) (Result (Unit {0}) FileError × (MutBor (List C) × Unit {0}))) (read : F) : Type 0 where
  pub few : (n : ℕ) → is_right n ≡ true → n * (k + 1) ≤ most_text
  pub reads : (text : Bor (List ℕ)) (memory left : MutBor (List C)) (answer : Result (Unit {0}) FileError) → g.post read (text, (memory, tt)) (answer, (left, tt))
      → MemoryRead k is_right text.now (numbers memory.now) answer (numbers left.now)

-- A memory was read from every text of which a buffer holds the front in its first n bytes. The buffer is longer than a memory file.
pub record FromFront (k : ℕ) (is_right : ℕ → Bool) (t : Outcome) (before after : List ℕ) : Type 0 where
  pub buffer : List ℕ
  pub n : ℕ
  pub long : most_text < length buffer
  pub within : n ≤ length buffer
  pub read : FrontRead k is_right buffer n t before after

-- .. unless the file can't be read, which leaves the memory as it was.
abbrev pub LoadedFront : ℕ → (ℕ → Bool) → Option Outcome → List ℕ → List ℕ → Type 0
LoadedFront k is_right (Some t) before after = FromFront k is_right t before after
LoadedFront k is_right None before after = after ≡ before
