-- What each answer of the reader tells: the number of document 02, and the line; document 01's 1 has no place.
use Rattle.std.specs.Prelude.{Result}
use Rattle.text.specs.declared.Outcome.{Outcome}
use Rattle.text.specs.Questions.{refused, done}
use Rattle.intel_hex.specs.declared.HexError.{HexError}

abbrev pub hex_refusal : HexError → Outcome
hex_refusal HexError.WrongLength = refused 1 0
hex_refusal (HexError.BadRecord line) = refused 17 line
hex_refusal (HexError.BadType line) = refused 18 line
hex_refusal (HexError.BadAddress line) = refused 19 line

abbrev pub hex_read_outcome : Result (Unit {0}) HexError → Outcome
hex_read_outcome r = done hex_refusal r
