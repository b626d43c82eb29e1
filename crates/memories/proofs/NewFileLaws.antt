-- What writing a memory or a record as a new file leaves. Assumes nothing.
use Prim.Native.Nat.{ℕ}
use mathlib.Core.Path.{◌∙◌, ap}
use mathlib.Core.Bool.{Bool}
use mathlib.Core.List.{List}
use lib.Dec.{eqb}
use Rattle.std.specs.Prelude.{Option, Result}
use Rattle.text.specs.declared.Outcome.{Outcome}
use Rattle.console.specs.declared.Writing.{Writing}
use Rattle.files.specs.declared.WriteError.{WriteError}
use Rattle.files.specs.MemoryFile.{write_outcome}
use Rattle.files.specs.Answers.{written_outcome}
use Rattle.files.specs.Promises.{TextWritten}
use Rattle.memories.specs.NewFiles.{NewWritten}

-- A writer that refuses what is not right.
pub text-written : {is_right : Bool} {file out after : List ℕ} {r : Result ℕ WriteError} → TextWritten is_right file out r after
    → {w : Option Writing} → NewWritten (eqb (written_outcome r).number 0) w → NewWritten is_right w
unfolding write_outcome
text-written written new = λ wrong. new (ap (λ (t : Outcome). eqb t.number 0) written.answer ∙ rw wrong)
