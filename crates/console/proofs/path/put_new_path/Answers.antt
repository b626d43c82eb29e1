use native.Mathlib.Omega.{arith}
use Rattle.console.proofs.AppendLaws.{no_path, path_put}
use Rattle.console.proofs.path.put_new_path.Goals as goal

pub returns-then-out-lt4 : goal.returns-then-out-lt4
returns-then-out-lt4 c = no_path _ _ (omega arith)

pub returns-then-out-path : goal.returns-then-out-path
returns-then-out-path c = no_path _ _ (omega arith)

pub returns : goal.returns
returns c = path_put _ _ _ _ _ _ (omega (arith, c.if-out-path.false, c.if-out-lt4.false)) c.put_bytes-at.ensures.0 c.put_bytes-at.ensures.1 c.put_bytes.ensures.0 c.put_bytes.ensures.1
