use mathlib.Core.Path.{sym, ◌∙◌}
use Rattle.statements.proofs.AskLaws.{right-form}
use Rattle.statements.proofs.ask.first_no.Goals as goal

pub returns-then-not-known : goal.returns-then-not-known
returns-then-not-known c = rw (
  right-form _ _ c.args.line.now.formed.is (sym c.is_right.ensures ∙ c.if-not-is_right.false),
  sym c.is_right.ensures ∙ c.if-not-is_right.false,
  c.if-not-known.true,
)

pub returns-then-not-inside : goal.returns-then-not-inside
returns-then-not-inside c = rw (
  right-form _ _ c.args.line.now.formed.is (sym c.is_right.ensures ∙ c.if-not-is_right.false),
  sym c.is_right.ensures ∙ c.if-not-is_right.false,
  c.if-not-known.false,
  c.if-not-inside.true,
)

pub returns-then-not-fresh : goal.returns-then-not-fresh
returns-then-not-fresh c = rw (
  right-form _ _ c.args.line.now.formed.is (sym c.is_right.ensures ∙ c.if-not-is_right.false),
  sym c.is_right.ensures ∙ c.if-not-is_right.false,
  c.if-not-known.false,
  c.if-not-inside.false,
  c.if-not-fresh.true,
)

pub returns-then-not-defined : goal.returns-then-not-defined
returns-then-not-defined c = rw (
  right-form _ _ c.args.line.now.formed.is (sym c.is_right.ensures ∙ c.if-not-is_right.false),
  sym c.is_right.ensures ∙ c.if-not-is_right.false,
  c.if-not-known.false,
  c.if-not-inside.false,
  c.if-not-fresh.false,
  c.if-not-defined.true,
)

pub returns-then-not-placed : goal.returns-then-not-placed
returns-then-not-placed c = rw (
  right-form _ _ c.args.line.now.formed.is (sym c.is_right.ensures ∙ c.if-not-is_right.false),
  sym c.is_right.ensures ∙ c.if-not-is_right.false,
  c.if-not-known.false,
  c.if-not-inside.false,
  c.if-not-fresh.false,
  c.if-not-defined.false,
  c.if-not-placed.true,
)

pub returns : goal.returns
returns c = rw (
  right-form _ _ c.args.line.now.formed.is (sym c.is_right.ensures ∙ c.if-not-is_right.false),
  sym c.is_right.ensures ∙ c.if-not-is_right.false,
  c.if-not-known.false,
  c.if-not-inside.false,
  c.if-not-fresh.false,
  c.if-not-defined.false,
  c.if-not-placed.false,
)
