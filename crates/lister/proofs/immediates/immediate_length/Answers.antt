use native.Mathlib.Omega.{arith}
use Rattle.words.proofs.WordLaws.{reads as held}
use Rattle.lister.proofs.ImmediateLaws.{signed_length, immediate_most}
use Rattle.lister.proofs.immediates.immediate_length.Goals as goal

pub returns : goal.returns
returns c =
    let z = c.signed_immediate-z in
    let whole = signed_length c.args.immediate _ c.requires (held z.type_inv z.ensures) _ c.magnitude.ensures in
    let most = immediate_most c.args.immediate c.requires in
    (omega arith, omega arith)
