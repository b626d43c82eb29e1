use Prim.Native.Nat.{◌<◌}
use mathlib.Core.Path.{refl, sym}
use native.Mathlib.Omega.{arith}
use Rattle.text.specs.Same.{same}
use Rattle.console.specs.Refusals.{sentence}
use Rattle.console.proofs.LineLaws.{none_above, texts_rule, sentence_most}
use Rattle.console.proofs.sentences.sentence.Goals as goal

pub returns-then-number-gt20-clause-is : goal.returns-then-number-gt20-clause-is
returns-then-number-gt20-clause-is c = sym (none_above c.args.number (omega arith))

pub returns-clause-is : goal.returns-clause-is
unfolding sentence same
returns-clause-is c =
    let few : c.args.number < 21 = omega arith in
    rw (c.as_bytes.ensures.value, texts_rule sentence 21 _ _ refl c.args.number few) refl

pub returns-clause-most : goal.returns-clause-most
returns-clause-most c =
    let few : c.args.number < 21 = omega arith in
    let is = returns-clause-is c in
    rw is (sentence_most c.args.number few)
