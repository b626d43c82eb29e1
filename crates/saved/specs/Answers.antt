-- What each answer tells: the documents' number, the place and the count. "When an answer is an enum, a definition states this paper's number
-- and values for each of its cases."
use Rattle.std.specs.Prelude.{Result, Ok, Err}
use Rattle.text.specs.declared.Outcome.{Outcome}
use Rattle.text.specs.Questions.{accepted, refused, done}
use Rattle.machine.specs.declared.Record.{Record}
use Rattle.saved.specs.declared.SaveError.{SaveError}
use Rattle.saved.specs.declared.LoadError.{LoadError}
use Rattle.saved.specs.Calls.{fresh_record}

abbrev pub save_refusal : SaveError → Outcome
save_refusal SaveError.WrongLength = refused 1 0
save_refusal SaveError.Unsound = refused 13 0

abbrev pub saved_outcome : Result (Unit {0}) SaveError → Outcome
saved_outcome answer = done save_refusal answer

abbrev pub load_refusal : LoadError → Outcome
load_refusal LoadError.WrongLength = refused 1 0
load_refusal LoadError.OtherEdition = refused 14 0
load_refusal LoadError.Unsound = refused 13 0
load_refusal LoadError.Busy = refused 20 0

abbrev pub loaded_outcome : Result Record LoadError → Outcome
loaded_outcome (Ok r) = accepted 0
loaded_outcome (Err error) = load_refusal error

-- The record to go on with: the one read, or the fresh one.
abbrev pub loaded_record : Result Record LoadError → Record
loaded_record (Ok r) = r
loaded_record (Err error) = fresh_record
