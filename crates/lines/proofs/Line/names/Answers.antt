use native.Mathlib.Omega.{arith}
use Rattle.lines.proofs.FormLaws.{code-room}
use Rattle.lines.proofs.NameLaws.{operation_below, register_below}
use Rattle.lines.proofs.Line.names.Goals as goal

pub text-requires : goal.text-requires
text-requires c = let parts = code-room c.args.self.now.formed c.requires in let at = c.op_at-first.ensures.at in omega arith

pub invariant_of-result : goal.invariant_of-result
invariant_of-result c = record {
  operation = operation_below c.in_ok-op.ensures;
  registers = (register_below c.in_ok-rd.ensures, register_below c.in_ok-rs.ensures, register_below c.in_ok-rt.ensures, register_below c.in_ok-rm.ensures);
}
