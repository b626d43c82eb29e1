-- The lines H, L and D of an operation, by what it does with the I/O registers. Assumes nothing.
use Prim.Native.Nat.{ℕ}
use mathlib.Core.Path.{◌≡◌, refl, sym, ◌∙◌, ap}
use mathlib.Core.List.{List, []}
use Rattle.isa.specs.Operations.{Operation, calculate, branch, jal, lw, sw, reti, input, output, halt, unknown}
use Rattle.isa.specs.Accesses.{access_of}
use Rattle.isa.specs.declared.Access.{Access}
use Rattle.isa.specs.declared.Access.TheVariants.{Read, Write}
use Rattle.std.proofs.Common.{Option, Some, None}
use Rattle.machine.specs.declared.Operands.{Operands}
use Rattle.machine.specs.Log.{io_lines}

module _ (c : ℕ) (o : Operands) (io : List ℕ) where
  unfoldable pub access_lines : Option Access → List ℕ
  access_lines None = []
  access_lines (Some Read) = io_lines c input o io
  access_lines (Some Write) = io_lines c output o io

  lines_are : (k : Operation) → io_lines c k o io ≡ access_lines (access_of k)
  unfolding access_of io_lines access_lines
  lines_are (calculate k) = refl
  lines_are (branch k) = refl
  lines_are jal = refl
  lines_are lw = refl
  lines_are sw = refl
  lines_are reti = refl
  lines_are input = refl
  lines_are output = refl
  lines_are halt = refl
  lines_are unknown = refl

  -- The lines of an operation whose access is known.
  pub lines_of : (a : Option Access) (k : Operation) → a ≡ access_of k → io_lines c k o io ≡ access_lines a
  lines_of a k e = lines_are k ∙ ap access_lines (sym e)
