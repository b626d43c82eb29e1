use mathlib.Core.Path.{sym, ap, ◌∙◌}
use native.Mathlib.Omega.{arith}
use lib.ListN.{length}
use Rattle.text.specs.Place.{put}
use Rattle.text.proofs.PutLaws.{put_nil, put_one}
use Rattle.lister.proofs.ImmediateLaws.{minus, no_sign}
use Rattle.lister.proofs.immediates.put_sign.Goals as goal

pub returns-then-z-lt0 : goal.returns-then-z-lt0
returns-then-z-lt0 c =
    let a = c.args in
    let e = minus a.z c.requires.0 c.if-z-lt0.true in
    (sym (put_one _ _ _) ∙ ap (put a.out.now a.at) (sym e), omega (arith, ap length e))

pub returns : goal.returns
returns c =
    let a = c.args in
    let e = no_sign a.z c.requires.0 c.if-z-lt0.false in
    (sym (put_nil _ _) ∙ ap (put a.out.now a.at) (sym e), omega (arith, ap length e))
