use mathlib.Core.Path.{refl, sym}
use Rattle.text.proofs.PutLaws.{put_one}
use Rattle.text.proofs.PieceLaws.{after_store}
use Rattle.lister.proofs.line.put_comma.Goals as goal

pub returns : goal.returns
returns c = (after_store c.args.out.now _ c.args.at _ _ _ refl (sym (put_one _ _ _)), refl)
