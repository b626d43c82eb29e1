-- Files that the operating system hands over. What it hands over can't be named: some text decides the outcome and what is read.
use Rattle.std.specs.Prelude.{ℕ, ◌≤◌, ◌≡◌, Bool, true, List, length, take}
use Rattle.text.specs.declared.Outcome.{Outcome}
use Rattle.text.specs.Questions.{unless_refused}
use Rattle.text.specs.Lines.{lines}
use Rattle.text.specs.Place.{put}
use Rattle.files.specs.MemoryFile.{read_outcome, file_words}
use Rattle.files.specs.Irq2File.{irq2_outcome, file_cycles, rising}

-- A memory was read from some text of k digits a line: t is its outcome, as the definition says, `is_right` asking the memory's length. The
-- memory is what that text gives then; where the text is refused, it is as before.
pub record FileLoaded (k : ℕ) (is_right : ℕ → Bool) (t : Outcome) (before after : List ℕ) : Type 0 where
  pub text : List ℕ
  pub outcome : t ≡ read_outcome k is_right (length before) text
  pub words : after ≡ unless_refused t (file_words (length before) (lines text)) before

-- The irq2 list was read from some text, in the same way.
pub record CyclesLoaded (t : Outcome) (before after : List ℕ) : Type 0 where
  pub text : List ℕ
  pub outcome : t ≡ irq2_outcome (length before) text
  pub places : after ≡ unless_refused t (put before 0 (file_cycles text)) before

-- Where the file is accepted, as many cycles as the outcome counts stand at the front, and rise.
abbrev pub AreCycles : Outcome → List ℕ → Type 0
AreCycles t cycles = t.number ≡ 0 → (t.count ≤ length cycles) × (rising (take t.count cycles) ≡ true)
