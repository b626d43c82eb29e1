use Prim.Native.Nat.{ℕ, ◌+◌}
use mathlib.Core.Path.{refl}
use Rattle.text.specs.Same.{same}
use Rattle.isa.specs.Registers.{register_name}
use Rattle.console.proofs.LineLaws.{texts_rule}
use Rattle.outputs.proofs.register_lines.register_name.Goals as goal

pub returns-clause-is : goal.returns-clause-is
unfolding register_name same
returns-clause-is c = rw (c.as_bytes.ensures.value, texts_rule (λ (k : ℕ). register_name (3 + k)) 13 _ _ refl c.args.i c.requires) refl
