-- What each answer tells: document 01's number, the place and the count. "When an answer is an enum, a definition states this paper's number
-- and values for each of its cases."
use Rattle.std.specs.Prelude.{ℕ, Result}
use Rattle.text.specs.declared.Outcome.{Outcome}
use Rattle.text.specs.Questions.{refused, counted, done}
use Rattle.files.specs.declared.FileError.{FileError}
use Rattle.files.specs.declared.CycleError.{CycleError}
use Rattle.files.specs.declared.WriteError.{WriteError}

-- ---- what each refusal tells

abbrev pub file_refusal : FileError → Outcome
file_refusal FileError.WrongLength = refused 1 0
file_refusal (FileError.NoWord line) = refused 10 line
file_refusal (FileError.BadDigits line) = refused 9 line

abbrev pub cycle_refusal : CycleError → Outcome
cycle_refusal (CycleError.NoWord line) = refused 10 line
cycle_refusal (CycleError.BadCycle line) = refused 11 line
cycle_refusal (CycleError.NotRising line) = refused 12 line

abbrev pub write_refusal : WriteError → Outcome
write_refusal WriteError.WrongLength = refused 1 0
write_refusal WriteError.NoRoom = refused 15 0

-- ---- what each answer tells

abbrev pub file_read_outcome : Result (Unit {0}) FileError → Outcome
file_read_outcome r = done file_refusal r

abbrev pub cycles_read_outcome : Result ℕ CycleError → Outcome
cycles_read_outcome r = counted cycle_refusal r

abbrev pub written_outcome : Result ℕ WriteError → Outcome
written_outcome r = counted write_refusal r
