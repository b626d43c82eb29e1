use Rattle.lines.proofs.FirstLaws.{first_long, first-none, first_dot, first_code}
use Rattle.lines.proofs.forms.first_form.Goals as goal

pub returns-then-line-gt-MOST_BYTES : goal.returns-then-line-gt-MOST_BYTES
returns-then-line-gt-MOST_BYTES c = first_long _ c.if-line-gt-MOST_BYTES.true

pub returns-in_default : goal.returns-in_default
returns-in_default c = first-none _ c.in_default.ensures

pub returns-then-line-s-eq46 : goal.returns-then-line-s-eq46
returns-then-line-s-eq46 c = first_dot _ c.in-Some.s c.in-Some.ensures c.if-line-s-eq58.false c.if-line-s-eq46.true

pub returns : goal.returns
returns c = first_code _ c.in-Some.s c.in-Some.ensures c.if-line-s-eq58.false c.if-line-s-eq46.false
