-- The number of each question of a line.
use Rattle.std.specs.Prelude.{ℕ, Result, Ok, Err}
use Rattle.statements.specs.declared.LineError.{LineError}
use Rattle.statements.specs.declared.LineError.TheVariants.{BadBytes, WrongForm, UnknownName, OutOfRange, DefinedBefore, Undefined, NoPlace}

abbrev pub number_of : LineError → ℕ
number_of BadBytes = 2
number_of WrongForm = 3
number_of UnknownName = 4
number_of OutOfRange = 5
number_of DefinedBefore = 6
number_of Undefined = 7
number_of NoPlace = 8

-- That of the one that got a no, 0 where none did.
abbrev pub question_of : Result (Unit {0}) LineError → ℕ
question_of (Ok _) = 0
question_of (Err error) = number_of error
