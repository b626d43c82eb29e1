use mathlib.Core.Path.{refl, sym, ap, ◌∙◌}
use native.Mathlib.Omega.{arith}
use Rattle.text.specs.Place.{put}
use Rattle.words.proofs.WordLaws.{reads as held}
use Rattle.text.proofs.PieceLaws.{more}
use Rattle.lister.proofs.ImmediateLaws.{small, signed_text, signed_length}
use Rattle.lister.proofs.immediates.put_immediate.Goals as goal

pub put_sign-digits_at-requires : goal.put_sign-digits_at-requires
put_sign-digits_at-requires c =
    let z = c.signed_immediate-z in
    let reads = held z.type_inv z.ensures in
    let whole = signed_length c.args.immediate _ c.requires.0 reads _ refl in
    (small c.args.immediate _ c.requires.0 reads, omega (arith, whole))

pub put_decimal-requires : goal.put_decimal-requires
put_decimal-requires c =
    let z = c.signed_immediate-z in
    let whole = signed_length c.args.immediate _ c.requires.0 (held z.type_inv z.ensures) _ c.magnitude.ensures in
    omega (arith, whole, c.put_sign-digits_at.ensures.1, c.put_sign-digits_at.auto)

pub returns : goal.returns
returns c =
    let a = c.args in
    let z = c.signed_immediate-z in
    let reads = held z.type_inv z.ensures in
    let size = c.magnitude in
    let sign = c.put_sign-digits_at.ensures in
    let digits = c.put_decimal.ensures in
    let whole = signed_length a.immediate _ c.requires.0 reads _ size.ensures in (
      more a.out.now _ _ a.at _ _ _ sign.1 sign.0 digits.0 ∙ ap (put a.out.now a.at) (sym (signed_text a.immediate _ c.requires.0 reads _ size.ensures)),
      omega (arith, whole, sign.1, digits.1),
    )
