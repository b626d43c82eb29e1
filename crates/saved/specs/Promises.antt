-- What saving and reading promise.
use Rattle.std.specs.Prelude.{ℕ, ◌≡◌, List, Result}
use Rattle.machine.specs.declared.Record.{Record}
use Rattle.saved.specs.declared.SaveError.{SaveError}
use Rattle.saved.specs.declared.LoadError.{LoadError}
use Rattle.saved.specs.Answers.{saved_outcome, loaded_outcome, loaded_record}
use Rattle.saved.specs.Calls.{save_outcome, save_bytes, load_outcome, load_record}

-- Saving the record r into bytes: the answer, and the bytes after it.
abbrev pub Saving : Record → List ℕ → Result (Unit {0}) SaveError → List ℕ → Type 0
Saving r before answer after = (saved_outcome answer ≡ save_outcome r before) × (after ≡ save_bytes r before)

-- Reading bytes: the answer, and the record to go on with.
abbrev pub Loading : List ℕ → Result Record LoadError → Type 0
Loading bytes answer = (loaded_outcome answer ≡ load_outcome bytes) × (loaded_record answer ≡ load_record bytes)
