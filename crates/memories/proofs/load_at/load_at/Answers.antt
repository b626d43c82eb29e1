use Rattle.memories.proofs.LoadLaws.{loaded, refused}
use Rattle.memories.proofs.load_at.load_at.Goals as goal

pub returns-in_err-accept : goal.returns-in_err-accept
returns-in_err-accept g c = λ is_right loader. rw c.from_residual-in_err-accept.ensures (refused (loader.loads _ _ _ _ c.in_ok-outcome.ensures) c.in_err-accept.ensures)

pub returns : goal.returns
returns g c = λ is_right loader. loaded (loader.loads _ _ _ _ c.in_ok-outcome.ensures) _ c.in_ok-accept.ensures
