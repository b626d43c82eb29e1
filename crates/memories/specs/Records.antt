-- What reading a saved record promises.
use Rattle.std.specs.Prelude.{◌≡◌, cond, List, ℕ, eqb, Option, Some, None, IfSome}
use Rattle.text.specs.Questions.{accepted}
use Rattle.machine.specs.declared.Record.{Record}
use Rattle.machine.specs.Soundness.{Sound}
use Rattle.saved.specs.Calls.{load_outcome, load_record}
use Rattle.files.specs.Front.{IsFront}

-- The record that these bytes hold is read where the definition of `saved` accepts them; else there is none. It is sound.
pub record ReadFrom (bytes : List ℕ) (r : Option Record) : Type 0 where
  pub is : r ≡ cond (eqb (load_outcome bytes).number 0) (Some (load_record bytes)) None
  pub sound : IfSome r (λ (state : Record). Sound state.core state.regs state.io)

-- A record was read from every whole file whose front the buffer holds.
abbrev pub FrontLoaded : (buffer : List ℕ) (n : ℕ) (r : Option Record) → Type 0
FrontLoaded buffer n r = (whole : List ℕ) → IsFront buffer n whole → ReadFrom whole r

-- Of a file, whose bytes can't be named: the record that some bytes hold which the definition of `saved` accepts, if one is read, ..
pub record RecordLoaded (state : Record) : Type 0 where
  pub bytes : List ℕ
  pub outcome : load_outcome bytes ≡ accepted 0
  pub is : state ≡ load_record bytes

-- .. and it is sound.
abbrev pub SoundRead : Option Record → Type 0
SoundRead (Some state) = Sound state.core state.regs state.io × RecordLoaded state
SoundRead None = Unit
