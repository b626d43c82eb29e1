use Prim.Native.Nat.{◌<◌}
use mathlib.Core.Path.{refl, sym}
use native.Mathlib.Omega.{arith}
use Rattle.text.specs.Same.{same}
use Rattle.console.proofs.LineLaws.{texts_rule}
use Rattle.outputs.specs.Statuses.{status_words}
use Rattle.outputs.proofs.StopLaws.{no_words}
use Rattle.outputs.proofs.status.status_words.Goals as goal

pub returns-then-status-gt5-clause-is : goal.returns-then-status-gt5-clause-is
returns-then-status-gt5-clause-is c = sym (no_words c.args.status (omega arith))

pub returns-clause-is : goal.returns-clause-is
unfolding status_words same
returns-clause-is c =
    let few : c.args.status < 6 = omega arith in
    rw (c.as_bytes.ensures.value, texts_rule status_words 6 _ _ refl c.args.status few) refl
