-- What each answer tells: document 01's number and the place.
use Rattle.std.specs.Prelude.{ℕ, Result}
use Rattle.text.specs.declared.Outcome.{Outcome}
use Rattle.text.specs.Questions.{refused, done}
use Rattle.statements.specs.declared.LineError.{LineError}
use Rattle.statements.specs.declared.LineError.TheVariants as Line
use Rattle.assembler.specs.declared.AssembleError.{AssembleError}
use Rattle.assembler.specs.declared.AssembleError.TheVariants.{WrongLength, BadBytes, WrongForm, UnknownName, OutOfRange, DefinedBefore, Undefined, NoPlace}

abbrev pub refusal_of : AssembleError → Outcome
refusal_of WrongLength = refused 1 0
refusal_of (BadBytes line) = refused 2 line
refusal_of (WrongForm line) = refused 3 line
refusal_of (UnknownName line) = refused 4 line
refusal_of (OutOfRange line) = refused 5 line
refusal_of (DefinedBefore line) = refused 6 line
refusal_of (Undefined line) = refused 7 line
refusal_of (NoPlace line) = refused 8 line

abbrev pub assembled_outcome : Result (Unit {0}) AssembleError → Outcome
assembled_outcome answer = done refusal_of answer

-- The error of a line.
abbrev pub at_line : LineError → ℕ → AssembleError
at_line Line.BadBytes line = BadBytes line
at_line Line.WrongForm line = WrongForm line
at_line Line.UnknownName line = UnknownName line
at_line Line.OutOfRange line = OutOfRange line
at_line Line.DefinedBefore line = DefinedBefore line
at_line Line.Undefined line = Undefined line
at_line Line.NoPlace line = NoPlace line
