use Rattle.std.proofs.Common.{rules, ltb, ◌∙◌}
use Rattle.std.proofs.lemmas.Iterator.{YieldsList-from_slice}
use Rattle.std.proofs.lemmas.Iterator.Search.{all_from_yields_List}
use Rattle.text.specs.Numerals.{digit_value}
use Rattle.text.proofs.DigitLaws.{all_digits-is}
use Rattle.text.proofs.digits.DigitTable.all_digits.Goals as goal

pub returns : goal.returns
returns c =
    all_from_yields_List (λ x. ltb (digit_value x) c.args.base) _ _ _ c.all.ensures.ran (YieldsList-from_slice c.args.s.now cc) (λ x b q k. search rules)
    ∙ all_digits-is c.args.base c.args.s.now
