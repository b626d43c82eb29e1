use mathlib.Core.Path.{sym}
use borrow.Author.Tests.{ne_eqb}
use Rattle.text.specs.Bytes.{bytes}
use Rattle.source.specs.Shapes.{fits}
use Rattle.source.proofs.ShapeLaws.{other_number, as_many, not_as_many, one_sign}
use Rattle.source.proofs.tokens.Tokens.is_lone_definition.Goals as goal

pub returns-then-self-eq1 : goal.returns-then-self-eq1
unfolding fits
returns-then-self-eq1 c =
    λ directive. one_sign directive _ _ (as_many c.args.self.now.split (bytes ":") c.requires (sym c.if-self-eq1.true)) _ c.text.ensures
    c.is_definition.result c.is_definition.ensures

pub returns-else-self-eq1 : goal.returns-else-self-eq1
returns-else-self-eq1 c =
    let other = ne_eqb c.args.self.now.count 1 c.if-self-eq1.false in
    λ directive. rw other (other_number directive (bytes ":") _ (not_as_many c.args.self.now.split (bytes ":") c.requires (λ e. c.if-self-eq1.false (sym e))))
