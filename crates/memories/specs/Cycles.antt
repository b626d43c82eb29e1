-- What reading the irq2 file promises.
use Rattle.std.specs.Prelude.{ℕ, ◌≤◌, ◌≡◌, true, cond, List, eqb, length, take, Option, Some, None}
use Rattle.text.specs.declared.Outcome.{Outcome}
use Rattle.text.specs.Questions.{accepted, unless_refused}
use Rattle.text.specs.Place.{put}
use Rattle.files.specs.Irq2File.{irq2_outcome, file_cycles, rising}
use Rattle.files.specs.Loaded.{CyclesLoaded, AreCycles}
use Rattle.files.specs.Front.{IsFront}

-- The cycles of this text are read: t is the outcome that the definition of `files` says. They stand at the front then, and rise, and the places after
-- them are as before; where the text is refused, nothing is changed.
pub record CyclesFile (text : List ℕ) (t : Outcome) (before after : List ℕ) : Type 0 where
  pub outcome : t ≡ irq2_outcome (length before) text
  pub places : after ≡ unless_refused t (put before 0 (file_cycles text)) before
  pub rise : AreCycles t after
  pub counted : t.number ≡ 0 → t ≡ accepted t.count

-- The most places that the front of an irq2 file decides about.
abbrev pub most_places : ℕ
most_places = 16384

-- The cycles were read from the first n bytes of a buffer, and where the list has no more than so many places, from every whole text whose front they are.
pub record FrontCycles (buffer : List ℕ) (n : ℕ) (t : Outcome) (before after : List ℕ) : Type 0 where
  pub front : CyclesFile (take n buffer) t before after
  pub whole : length before ≤ most_places → (text : List ℕ) → IsFront buffer n text → CyclesFile text t before after

-- The same of a file, whose text can't be named. A file that can't be read changes nothing.
abbrev pub LoadedCycles : Option Outcome → List ℕ → List ℕ → Type 0
LoadedCycles (Some t) before after = (text : List ℕ) × CyclesFile text t before after
LoadedCycles None before after = after ≡ before

-- The count of an outcome; none of a refusal.
abbrev pub outcome_count : Outcome → Option ℕ
outcome_count t = cond (eqb t.number 0) (Some t.count) None

-- So many cycles stand at the front, and rise: those of some text that the definition of `files` accepts. Where there is none, nothing is changed.
abbrev pub RiseIn : Option ℕ → List ℕ → List ℕ → Type 0
RiseIn (Some n) before after = (n ≤ length after) × (rising (take n after) ≡ true) × CyclesLoaded (accepted n) before after
RiseIn None before after = after ≡ before
