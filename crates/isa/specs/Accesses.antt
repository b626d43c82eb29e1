-- What an operation does with the I/O registers, as an opcode is decoded: "in: R[rd] = IO[a]. out: IO[a] = R[rm]."
use Rattle.std.specs.Prelude.{Option, Some, None}
use Rattle.isa.specs.Operations.{Operation, calculate, branch, jal, lw, sw, reti, input, output, halt, unknown}
use Rattle.isa.specs.declared.Access.{Access}
use Rattle.isa.specs.declared.Access.TheVariants.{Read, Write}

unfoldable pub access_of : Operation → Option Access
access_of (calculate k) = None
access_of (branch k) = None
access_of jal = None
access_of lw = None
access_of sw = None
access_of reti = None
access_of input = Some Read
access_of output = Some Write
access_of halt = None
access_of unknown = None
